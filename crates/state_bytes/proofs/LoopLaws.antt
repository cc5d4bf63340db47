-- The loops of `load` and `store` over the 16 entries: what holds after i of them is `Reading` and `Writing`, with laws for start, turn and end.
use Prim.Native.Nat.{ℕ, suc, ◌+◌, ◌*◌, ◌-◌, ◌≤◌, ◌<◌}
use mathlib.Core.Path.{◌≡◌, refl, sym, ap, ap₂, ◌∙◌}
use mathlib.Core.List.{List, [], ◌∷◌, ◌++◌, append_assoc, append-nil}
use mathlib.Core.Bool.{Bool, true, false, ◌&&◌, cond}
use Rattle.std.specs.Prelude.{Option, None, Some}
use native.Mathlib.Omega.{arith}
use native.Mathlib.Numerals.{add-one}
use lib.Dec.{leb}
use lib.ListN.{length, get_or, set, take, drop, length-drop, length-set, drop_of_length-le}
use lib.Seq.{drop-drop, drop-cons, take-suc, take-suc-set, take_all, length-take-le}
use borrow.Author.Tests.{le-leb, lt-leb}
use borrow.Rule.Slice.PartMut.{put_mid}
use Rattle.std.specs.Int.{w32, to_le_bytes}
use Rattle.buffers.specs.Bytes.{over}
use Rattle.buffers.proofs.Laws.{clash}
use Rattle.buffers.proofs.LoopSteps.{tail}
use Rattle.buffers.proofs.OverLaws.{over_none, length_over, over_over}
use Rattle.bank.specs.Number.{u32_at, le32}
use Rattle.bank.proofs.NumberLaws.{le_bytes}
use Rattle.nvram.specs.declared.state.Kind.{Kind}
use Rattle.nvram.specs.declared.state.Kind.TheVariants.{Empty}
use Rattle.nvram.specs.declared.state.Entry.{Entry}
use Rattle.nvram.specs.declared.state.Nvram.{Nvram}
use Rattle.nvram.specs.Kind.{kind_number}
use Rattle.nvram.specs.Part.{entry}
use Rattle.state_bytes.specs.State.{state_head, entry_size, state_size, three, four, entry_bytes, entries_bytes, state_bytes, stored, entry_at, entries_at, state_at, kinds_known, known_entry, all_le32, read_state}
use Rattle.state_bytes.proofs.StateLaws.{kind_small, kind_back, length_three, length_four, length_entries, length_state, read_known}

-- reading

pub read_short : (bs : List ℕ) → length bs < state_size → read_state bs ≡ None
unfolding read_state
read_short bs h = rw (lt-leb _ _ h)

-- an entry whose kind is named by its number
pub entry_some : (bs : List ℕ) (k : Kind) (t u : ℕ) → kind_number k ≡ u32_at bs 0 → t ≡ u32_at bs 4 → u ≡ u32_at bs 8 → Some (entry k t u) ≡ known_entry bs
unfolding entry_at
entry_some bs k t u e p q =
    rw (← e, le-leb _ _ (kind_small k), kind_back k, ← p, ← q)

-- i entries are read
pub record Reading (bs : List ℕ) (es : List Entry) (i : ℕ) : Type 0 where
  pub entries : entries_at 16 (drop state_head bs) ≡ take i es ++ entries_at (16 - i) (drop (state_head + entry_size * i) bs)
  pub known : kinds_known 16 (drop state_head bs) ≡ kinds_known (16 - i) (drop (state_head + entry_size * i) bs)
  pub high : i ≤ 16
  pub long : length es ≡ 16
  pub room : state_size ≤ length bs

pub reading_none : (bs : List ℕ) (es : List Entry) → length es ≡ 16 → state_size ≤ length bs → Reading bs es 0
reading_none bs es l h = record { entries = refl; known = refl; high = omega arith; long = l; room = h }

module _ {bs : List ℕ} {es : List Entry} {i : ℕ} (r : Reading bs es i) where
  -- the entry that is next
  module _ (lt : i < 16) where
    abbrev rest : List ℕ
    rest = drop (state_head + entry_size * i) bs

    -- what is behind it
    abbrev behind : List ℕ
    behind = drop (state_head + entry_size * (i + 1)) bs

    left : 16 - i ≡ suc (16 - (i + 1))
    left = omega arith

    next : drop entry_size rest ≡ behind
    next =
        let e : state_head + entry_size * i + entry_size ≡ state_head + entry_size * (i + 1) = omega arith in
        drop-drop entry_size (state_head + entry_size * i) bs ∙ ap (λ (n : ℕ). drop n bs) e

    known_next : kinds_known 16 (drop state_head bs) ≡ (leb (u32_at rest 0) 2 && kinds_known (16 - (i + 1)) behind)
    unfolding kinds_known
    known_next =
        r.known ∙ ap (λ (n : ℕ). kinds_known n rest) left
        ∙ ap (λ (q : List ℕ). leb (u32_at rest 0) 2 && kinds_known (16 - (i + 1)) q) next

    -- the code reads it in what it lends
    abbrev lent : List ℕ
    lent = take (length bs - (state_head + entry_size * i)) rest

    read : (o : Option Entry) → o ≡ known_entry lent → o ≡ cond (leb (u32_at rest 0) 2) (Some (entry_at rest)) None
    read o p = p ∙ ap known_entry (tail bs (state_head + entry_size * i))

    pub unknown : None ≡ known_entry lent → read_state bs ≡ None
    unfolding read_state
    unknown p = go (leb (u32_at rest 0) 2) refl (read None p)
      where
        go : (t : Bool) → leb (u32_at rest 0) 2 ≡ t → None ≡ cond t (Some (entry_at rest)) None → read_state bs ≡ None
        go true q h = clash cc
        go false q h = let e : kinds_known 16 (drop state_head bs) ≡ false = known_next ∙ rw q in rw (le-leb _ _ r.room, e)

    pub reading_more : (e : Entry) → Some e ≡ known_entry lent → Reading bs (set es i e) (i + 1)
    unfolding entries_at
    reading_more e p = go (leb (u32_at rest 0) 2) refl (read (Some e) p)
      where
        go : (t : Bool) → leb (u32_at rest 0) 2 ≡ t → Some e ≡ cond t (Some (entry_at rest)) None → Reading bs (set es i e) (i + 1)
        go false q h = clash cc
        go true q h =
            let v : entry_at rest ≡ e = cc in
            let after = entries_at (16 - (i + 1)) behind in
            let t : take (i + 1) (set es i e) ≡ take i es ++ (e ∷ []) =
            ap (λ (n : ℕ). take n (set es i e)) (add-one i) ∙ take-suc-set es i e (omega (arith, r.long)) in
            record {
              entries =
                  r.entries ∙ ap (λ (n : ℕ). take i es ++ entries_at n rest) left
                  ∙ ap₂ (λ (x : Entry) (l : List ℕ). take i es ++ (x ∷ entries_at (16 - (i + 1)) l)) v next
                  ∙ sym (ap (λ (l : List Entry). l ++ after) t ∙ append_assoc (take i es) (e ∷ []) after);
              known = known_next ∙ rw q;
              high = omega arith;
              long = length-set es i e ∙ r.long;
              room = r.room;
            }

  pub read_all : (n a c b : ℕ) → i ≡ 16 → n ≡ u32_at bs 0 → a ≡ u32_at bs 4 → c ≡ u32_at bs 8 → b ≡ u32_at bs 12
      → read_state bs ≡ Some (record { n = n; active = a; tally = record { clock = c; barrel = b }; banks = es })
  unfolding kinds_known entries_at state_at
  read_all n a c b e p q u v =
      let known : kinds_known 16 (drop state_head bs) ≡ true =
      r.known ∙ ap (λ (k : ℕ). kinds_known (16 - k) (drop (state_head + entry_size * k) bs)) e in
      let banks : entries_at 16 (drop state_head bs) ≡ es =
      r.entries ∙ ap (λ (k : ℕ). take k es ++ entries_at (16 - k) (drop (state_head + entry_size * k) bs)) e
      ∙ append-nil (take 16 es)
      ∙ take_all 16 es (omega (arith, r.long)) in
      read_known bs r.room known
      ∙ (λ j. Some (record { n = sym p j; active = sym q j; tally = record { clock = sym u j; barrel = sym v j }; banks = banks j }))

-- writing

-- numbers one behind the other

length_le32 : (ns : List ℕ) → length (all_le32 ns) ≡ 4 * length ns
unfolding all_le32 le32
length_le32 [] = refl
length_le32 (n ∷ ns) = omega (arith, length_le32 ns)

le32_append : (ns : List ℕ) (n : ℕ) → all_le32 (ns ++ (n ∷ [])) ≡ all_le32 ns ++ le32 n
unfolding all_le32 le32
le32_append [] n = refl
le32_append (m ∷ ns) n = ap (λ (q : List ℕ). le32 m ++ q) (le32_append ns n)

le32_next : (ns : List ℕ) (i : ℕ) → i < length ns → all_le32 (take (i + 1) ns) ≡ all_le32 (take i ns) ++ le32 (get_or ns i 0)
le32_next ns i h = ap (λ (n : ℕ). all_le32 (take n ns)) (add-one i) ∙ ap all_le32 (take-suc ns i 0 h) ∙ le32_append (take i ns) (get_or ns i 0)

pub put_none : (at : ℕ) (ns w : List ℕ) → w ≡ over at (all_le32 (take 0 ns)) w
unfolding all_le32
put_none at ns w = sym (over_none at w)

-- bytes that a part in the middle is given back as
put_over : (p m : ℕ) (w y : List ℕ) → m ≡ length y → put_mid p m w y ≡ over p y w
unfolding over
put_over p m w y e =
    let n : p + m ≡ p + length y = omega arith in
    ap (λ (q : List ℕ). take p w ++ (y ++ q)) (drop-drop m p w ∙ ap (λ (k : ℕ). drop k w) n)

pub put_more : (at i : ℕ) (ns w₀ w x y : List ℕ) (k : ℕ) → length ns ≡ k → i < k → at + 4 * k ≤ length w₀ → w ≡ over at (all_le32 (take i ns)) w₀
    → x ≡ to_le_bytes w32 (get_or ns i 0)
    → y ≡ x
    → put_mid (at + 4 * i) (at + 4 * i + 4 - (at + 4 * i)) w y ≡ over at (all_le32 (take (i + 1) ns)) w₀
unfolding le32
put_more at i ns w₀ w x y k l h r e p q =
    let b = le32 (get_or ns i 0) in
    let front = all_le32 (take i ns) in
    let z : y ≡ b = q ∙ p ∙ le_bytes (get_or ns i 0) in
    let long : length front ≡ 4 * i = length_le32 (take i ns) ∙ omega (arith, length-take-le i ns (omega arith)) in
    put_over (at + 4 * i) (at + 4 * i + 4 - (at + 4 * i)) w y (omega (arith, ap length z))
    ∙ ap₂ (over (at + 4 * i)) z e
    ∙ over_over at (at + 4 * i) front b w₀ (omega arith) (omega arith)
    ∙ ap (λ (q : List ℕ). over at q w₀) (sym (le32_next ns i (omega arith)))

pub put_all : (at k i : ℕ) (ns w₀ w : List ℕ) → k ≤ i → length ns ≡ k → w ≡ over at (all_le32 (take i ns)) w₀ → w ≡ over at (all_le32 ns) w₀
put_all at k i ns w₀ w h l e = e ∙ ap (λ (q : List ℕ). over at (all_le32 q) w₀) (take_all i ns (omega arith))

-- i entries are written
pub record Writing (es : List Entry) (w₀ w : List ℕ) (i : ℕ) : Type 0 where
  pub rest : over (state_head + entry_size * i) (entries_bytes (drop i es)) w ≡ over state_head (entries_bytes es) w₀
  pub high : i ≤ 16
  pub long : length es ≡ 16
  pub same : length w ≡ length w₀
  pub room : state_size ≤ length w₀

pub writing_none : (es : List Entry) (w : List ℕ) → length es ≡ 16 → state_size ≤ length w → Writing es w w 0
writing_none es w l h = record { rest = refl; high = omega arith; long = l; same = refl; room = h }

module _ {es : List Entry} {w₀ w : List ℕ} {i : ℕ} (r : Writing es w₀ w i) where
  abbrev x : Entry
  x = get_or es i (entry Empty 0 0)

  pub writing_more : (k : ℕ) (w₁ : List ℕ) → i < 16 → k ≡ kind_number x.kind
      → w₁ ≡ over (state_head + entry_size * i) (all_le32 (k ∷ x.total ∷ x.usable ∷ [])) w
      → Writing es w₀ w₁ (i + 1)
  unfolding entries_bytes all_le32 le32
  writing_more k w₁ lt p q =
      let e : w₁ ≡ over (state_head + entry_size * i) (entry_bytes x) w =
      q ∙ ap (λ (n : ℕ). over (state_head + entry_size * i) (three n x.total x.usable) w) p in
      let todo = entries_bytes (drop (i + 1) es) in
      let lx : length (entry_bytes x) ≡ entry_size = length_three (kind_number x.kind) x.total x.usable in
      let bound : state_head + entry_size * (i + 1) + length todo ≤ length w =
      omega (arith, r.room, r.same, r.long, length_entries (drop (i + 1) es), length-drop (i + 1) es) in
      let split : entry_bytes x ++ todo ≡ entries_bytes (drop i es) =
      ap (λ (n : ℕ). entry_bytes x ++ entries_bytes (drop n es)) (add-one i) ∙ sym (ap entries_bytes (drop-cons es i (entry Empty 0 0) (omega (arith, r.long)))) in
      record {
        rest =
            ap (over (state_head + entry_size * (i + 1)) todo) e
            ∙ over_over (state_head + entry_size * i) (state_head + entry_size * (i + 1)) (entry_bytes x) todo w (omega arith) bound
            ∙ ap (λ (y : List ℕ). over (state_head + entry_size * i) y w) split
            ∙ r.rest;
        high = omega arith;
        long = r.long;
        same = ap length e ∙ length_over (state_head + entry_size * i) (entry_bytes x) w (omega (arith, r.room, r.same)) ∙ r.same;
        room = r.room;
      }

  pub written : (s : Nvram) (bs : List ℕ) → i ≡ 16 → es ≡ s.banks → state_size ≤ length bs
      → w₀ ≡ over 0 (all_le32 (s.n ∷ s.active ∷ s.tally.clock ∷ s.tally.barrel ∷ [])) bs
      → w ≡ stored s bs
  unfolding over stored state_bytes entries_bytes all_le32 le32
  written s bs n b h e =
      let head = four s.n s.active s.tally.clock s.tally.barrel in
      let lh : length head ≡ state_head = length_four s.n s.active s.tally.clock s.tally.barrel in
      let le : length (entries_bytes es) ≡ 192 = omega (arith, r.long, length_entries es) in
      let done : w ≡ over state_head (entries_bytes es) w₀ =
      sym (over_none (state_head + entry_size * i) w)
      ∙ ap (λ (l : List Entry). over (state_head + entry_size * i) (entries_bytes l) w) (sym (drop_of_length-le es {i = i} (omega (arith, r.long))))
      ∙ r.rest in
      let whole : 0 + length (state_bytes s) ≡ state_size = omega (arith, length_state s (sym (ap length b) ∙ r.long)) in
      done ∙ ap (over state_head (entries_bytes es)) e ∙ over_over 0 state_head head (entries_bytes es) bs (omega arith) (omega arith)
      ∙ ap (λ (l : List Entry). over 0 (head ++ entries_bytes l) bs) b
      ∙ ap (λ (k : ℕ). state_bytes s ++ drop k bs) whole
