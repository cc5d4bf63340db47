-- Reading and writing are inverse to each other, and an accepted log has at most 1,364 entries.
use Prim.Native.Nat.{ℕ, zero, suc, ◌+◌, ◌*◌, ◌/◌, ◌≤◌}
use mathlib.Core.Path.{◌≡◌, refl, sym, ap, ◌∙◌}
use mathlib.Core.List.{List, [], ◌∷◌, ◌++◌}
use mathlib.Core.Bool.{false}
use native.Mathlib.Omega.{arith}
use lib.ListN.{length, drop, length-append, length-drop}
use lib.Seq.{drop-drop, drop_at}
use borrow.Author.Tests.{ltb-false}
use Rattle.std.specs.Prelude.{Some, Ok}
use Rattle.buffers.specs.Bytes.{AllBelow}
use Rattle.buffers.proofs.BelowLaws.{below_drop}
use Rattle.buffers.proofs.Laws.{neither}
use Rattle.leb128.specs.Leb128.{encoded, encoded_all, decoded}
use Rattle.leb128.proofs.Forms.{by_size, size_some, size_large}
use Rattle.leb128.proofs.Decoding.{decode_back, decoded_leads}
use Rattle.leb128.proofs.Numbers.{sizes_some}
use Rattle.run_log.specs.Output.{prefixed}
use Rattle.run_log.specs.RunLog.{log_bytes, falls, write_log, and_then, read_entries, read_log}
use Rattle.run_log.proofs.Results.{shown}
use Rattle.run_log.proofs.Entries.{entry_run}
use Rattle.run_log.proofs.Reading.{Taken, log_shows, log_counted}
use Rattle.run_log.proofs.Writing.{log_is, write_gives, write_shows}

-- an accepted log is that of its entries
pub taken_bytes : {s ns : List ℕ} → AllBelow 256 s → Taken s ns → s ≡ log_bytes ns
taken_bytes {s} {ns} h t =
    let n : t.count ≡ length ns / 3 = omega (arith, t.entered.threes) in
    (decoded_leads s h t.counts).is ∙ ap (◌++◌ (encoded t.count)) (t.entered.bytes (below_drop t.k s h))
    ∙ ap (λ (c : ℕ). encoded c ++ encoded_all ns) n
    ∙ sym (log_is ns)

-- and what the writer makes of them
pub read_write : (s ns : List ℕ) → AllBelow 256 s → read_log s ≡ Ok ns → write_log ns ≡ Ok s
read_write s ns h e =
    let t = shown (log_shows s) e in
    let b = taken_bytes h t in
    write_gives ns (omega (arith, t.entered.threes)) t.entered.rises (omega (arith, ap length b, t.size)) ∙ ap Ok (sym b)

entries_back : (count last : ℕ) (ns : List ℕ) → AllBelow 4294967296 ns → length ns ≡ 3 * count → falls last ns ≡ false
    → read_entries count last (encoded_all ns) ≡ Ok ns
unfolding read_entries and_then prefixed encoded_all falls
entries_back zero last [] w l r = refl
entries_back zero last (a ∷ ns) w l r = absurd (omega arith)
entries_back (suc count) last [] w l r = absurd (omega arith)
entries_back (suc count) last (a ∷ []) w l r = absurd (omega arith)
entries_back (suc count) last (a ∷ b ∷ []) w l r = absurd (omega arith)
entries_back (suc count) last (a ∷ b ∷ c ∷ ns) w l r =
    let t = neither _ _ r in
    let i = length (encoded a) in
    let j = length (encoded b) in
    let k = length (encoded c) in
    let x = encoded b ++ (encoded c ++ encoded_all ns) in
    let s = encoded a ++ x in
    let d : drop i s ≡ x = drop_at (encoded a) x i refl in
    let e : drop (i + j) s ≡ encoded c ++ encoded_all ns =
    sym (drop-drop j i s) ∙ ap (drop j) d ∙ drop_at (encoded b) (encoded c ++ encoded_all ns) j refl in
    let f : drop (i + j + k) s ≡ encoded_all ns = sym (drop-drop k (i + j) s) ∙ ap (drop k) e ∙ drop_at (encoded c) (encoded_all ns) k refl in
    let p : decoded (drop i s) ≡ Some (b, j) = ap decoded d ∙ decode_back b (encoded c ++ encoded_all ns) (w 1) in
    let q : decoded (drop (i + j) s) ≡ Some (c, k) = ap decoded e ∙ decode_back c (encoded_all ns) (w 2) in
    let g = entry_run last s (decode_back a x (w 0)) (ltb-false _ _ t.0) p q in
    let h = entries_back count a ns (λ n. w (suc (suc (suc n)))) (omega arith) t.1 in
    rw (g, f, h) refl

-- entries that the writer accepts read back the same
pub write_read : (ns s : List ℕ) → AllBelow 4294967296 ns → write_log ns ≡ Ok s → read_log s ≡ Ok ns
write_read ns s w e =
    let m = shown (write_shows ns) e in
    let n = length ns / 3 in
    let i : s ≡ encoded n ++ encoded_all ns = m.is ∙ log_is ns in
    let l : length ns ≤ 4096 = omega (arith, sizes_some ns, ap length i, length-append (encoded n) (encoded_all ns), m.size) in
    let c : decoded s ≡ Some (n, length (encoded n)) = ap decoded i ∙ decode_back n (encoded_all ns) (omega arith) in
    let d : drop (length (encoded n)) s ≡ encoded_all ns =
    ap (drop (length (encoded n))) i ∙ drop_at (encoded n) (encoded_all ns) (length (encoded n)) refl in
    log_counted s m.size c ∙ ap (read_entries n 0) d ∙ entries_back n 0 ns w (omega (arith, m.threes)) m.rises

-- 1,364 entries at most
pub taken_most : {s ns : List ℕ} → AllBelow 256 s → Taken s ns → length ns ≤ 4092
taken_most {s} {ns} h t =
    by_size (λ n. length ns ≤ 4092) t.count (λ l. omega (arith, t.entered.threes))
    (λ l. omega (arith, (decoded_leads s h t.counts).size, size_large t.count l, size_some (t.count / 128), t.entered.inside, t.entered.threes, length-drop t.k s, t.size))
