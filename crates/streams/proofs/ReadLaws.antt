-- A buffer whose front is filled, where a read puts ys from `a` on: of the n bytes that it gave the front grows.
use Rattle.std.proofs.Common.{◌≡◌, ℕ, ◌+◌, ◌≤◌, List, ◌++◌, length, take, drop, sym, ap, ◌∙◌, drop_at, length-take-le, le_refl}
use Rattle.std.proofs.lemmas.Slice.{take-put_mid_below}
use borrow.Rule.Slice.PartMut.{put_mid, post_of}
use lib.Seq.{take-add, take-append-le}

pub front_more : (a k n : ℕ) (xs ys : List ℕ) → a ≤ length xs → n ≤ length ys → take a xs ++ take n ys ≡ take (a + n) (put_mid a k xs ys)
front_more a k n xs ys within fits =
    let new = put_mid a k xs ys in
    let after = post_of a k xs in
    let front : take a new ≡ take a xs = take-put_mid_below a k xs ys a (le_refl a) within in
    let rest : drop a new ≡ ys ++ after = drop_at (take a xs) (ys ++ after) a (length-take-le a xs within) in
    let part : take n (drop a new) ≡ take n ys = ap (take n) rest ∙ take-append-le n ys after fits in
    sym (take-add a n new ∙ ap (λ l. l ++ take n (drop a new)) front ∙ ap (λ l. take a xs ++ l) part)
