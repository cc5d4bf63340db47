-- Text put over bytes, one run behind another (`join`); room for all is room for each (`front`, `back`), and for a line field by field
-- (`Rooms`). A whole text at the front of the bytes lent (`left_alone`, `left_printed`).
use Prim.Native.Nat.{ℕ, ◌+◌, ◌-◌, ◌≤◌, ◌<◌}
use mathlib.Core.Path.{◌≡◌, refl, sym, ap, ◌∙◌}
use mathlib.Core.List.{List, [], ◌∷◌, ◌++◌}
use native.Mathlib.Omega.{arith}
use lib.ListN.{length, length-append}
use lib.Seq.{length-take-le, drop-drop}
use borrow.Author.Tests.{le-leb, lt-leb}
use borrow.Rule.Slice.PartMut.{put_mid}
use Rattle.buffers.specs.Bytes.{over}
use Rattle.buffers.proofs.OverLaws.{length_over, over_none, over_over}
use Rattle.text.specs.declared.Writer.{Writer}
use Rattle.text.specs.Text.{field, line}
use Rattle.text.specs.Put.{Room, Put, IsPrefixLen, printed_length, printed_out}

pub length_put : {v w : Writer} {x : List ℕ} → Put v w x → length w.out.now ≡ length v.out.now
length_put {v} {w} {x} a = ap length a.left ∙ length_over v.at x v.out.now (omega arith)

pub put_none : (v : Writer) → v.at ≤ length v.out.now → Put v v []
put_none v h = record { same = refl; left = sym (over_none v.at v.out.now); ends = omega arith; room = h }

-- a text copied onto as many bytes from a place on
pub over_mid : (at : ℕ) (x w y : List ℕ) → at + length x ≤ length w → y ≡ x → put_mid at (at + length x - at) w y ≡ over at x w
unfolding over
over_mid at x w y h e = let q : at + length x - at ≡ length x = omega arith in rw (e, q, drop-drop (length x) at w)

-- a run, and a run behind it
pub join : {u v w : Writer} {x y : List ℕ} → Put u v x → Put v w y → Put u w (x ++ y)
join {u} {v} {w} {x} {y} a b =
    let l : length v.out.now ≡ length u.out.now = length_put a in
    let e : over v.at y (over u.at x u.out.now) ≡ over u.at (x ++ y) u.out.now =
    ap (λ (k : ℕ). over k y (over u.at x u.out.now)) a.ends ∙ over_over u.at (u.at + length x) x y u.out.now refl (omega arith) in
    record {
      same = b.same ∙ a.same;
      left = b.left ∙ ap (over v.at y) a.left ∙ e;
      ends = omega (arith, length-append x y);
      room = omega arith;
    }

-- room for two runs is room for the first, and behind it for the second
pub front : {v : Writer} {x : List ℕ} (y : List ℕ) → Room v (x ++ y) → Room v x
front {v} {x} y r = record { fits = omega (arith, r.fits, length-append x y) }

pub back : {v w : Writer} {x : List ℕ} (y : List ℕ) → Put v w x → Room v (x ++ y) → Room w y
back {v} {w} {x} y a r = record { fits = omega (arith, r.fits, length-append x y, length_put a) }

pub of_field : {v : Writer} {f : List ℕ} (end : ℕ) → Room v (field f end) → Room v f
unfolding field
of_field end r = front (end ∷ []) r

pub behind_field : {v w : Writer} {end : ℕ} {f : List ℕ} → Put v w f → Room v (field f end) → Room w (end ∷ [])
unfolding field
behind_field {end = end} a r = back (end ∷ []) a r

-- room for a line of fields
pub record Rooms (v : Writer) (fs : List (List ℕ)) : Type 0 where
  pub all : Room v (line fs)

pub fields : {v : Writer} (fs : List (List ℕ)) → Room v (line fs) → Rooms v fs
fields fs r = record { all = r }

pub first : {v : Writer} {f g : List ℕ} {fs : List (List ℕ)} → Rooms v (f ∷ g ∷ fs) → Room v (field f 0x20)
unfolding line
first {g = g} {fs = fs} r = front (line (g ∷ fs)) r.all

pub next : {v w : Writer} {f g : List ℕ} {fs : List (List ℕ)} → Put v w (field f 0x20) → Rooms v (f ∷ g ∷ fs) → Rooms w (g ∷ fs)
unfolding line
next {g = g} {fs = fs} a r = record { all = back (line (g ∷ fs)) a r.all }

pub last : {v : Writer} {f : List ℕ} → Rooms v (f ∷ []) → Room v (field f 0x0A)
unfolding line
last r = r.all

prefix_len_of_le : (n : ℕ) (xs : List ℕ) → n ≤ length xs → IsPrefixLen n xs
prefix_len_of_le n xs h = (h, sym (length-take-le n xs h))

-- a text x at the front of w, where n bytes are enough for it
module _ (n : ℕ) (x w : List ℕ) where
  pub left_alone : length w < n → IsPrefixLen 0 w × ((0 ≡ printed_length n x w) × (w ≡ printed_out n x w))
  unfolding printed_length printed_out
  left_alone h = (prefix_len_of_le 0 w (omega arith), (simp (lt-leb n (length w) h), simp (lt-leb n (length w) h)))

  pub left_printed : {u v : Writer} → n ≤ length w → u.at ≡ 0 → u.out.now ≡ w → Put u v x
      → IsPrefixLen v.at v.out.now × ((v.at ≡ printed_length n x w) × (v.out.now ≡ printed_out n x w))
  unfolding printed_length printed_out
  left_printed {u} {v} h z e a =
      let l : length v.out.now ≡ length w = length_put a ∙ ap length e in
      let k : v.at ≡ length x = omega (arith, a.ends, z) in
      let o : v.out.now ≡ over 0 x w = a.left ∙ ap (λ (i : ℕ). over i x u.out.now) z ∙ ap (over 0 x) e in
      let r : v.at ≤ length v.out.now = omega (arith, a.room, length_put a) in
      (prefix_len_of_le v.at v.out.now r, (simp (le-leb n (length w) h) k, simp (le-leb n (length w) h) o))
