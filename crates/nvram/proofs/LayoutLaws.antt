-- A book that is laid out is viewed again, and what is viewed was laid out so; and one slot of many.
use Prim.Native.Nat.{ℕ, zero, suc, ◌+◌, ◌*◌, ◌-◌, ◌≤◌, ◌<◌}
use mathlib.Core.Path.{◌≡◌, refl, sym, ap, ap₂, ◌∙◌, subst}
use mathlib.Core.List.{List, [], ◌∷◌, ◌++◌, map, append_assoc}
use mathlib.Core.Bool.{Bool, true, cond}
use Rattle.std.specs.Prelude.{Option, None, Some}
use native.Mathlib.Omega.{arith}
use native.Mathlib.Nat.{sub-zero, suc-sub-suc, suc-mul, zero-mul}
use lib.ListN.{length, get_or, set, take, drop, replicate, length-append, length-drop, length-set, take-append-drop}
use lib.Seq.{take_at, drop_at, take-add, length-take-le}
use borrow.Author.Tests.{eqb-true, le-leb, leb-true, lt-ltb, ltb-true}
use Rattle.crc32.specs.Crc32.{Bytes}
use Rattle.buffers.proofs.BelowLaws.{below_take, below_drop}
use Rattle.buffers.proofs.Laws.{clash, and_both}
use Rattle.bank.specs.Bank.{Slot, invalid, part_of}
use Rattle.tally.specs.declared.Tally.{Tally}
use Rattle.book.specs.Book.{part_size, Book, FineSlots, FineBook}
use Rattle.nvram.specs.declared.state.Kind.{Kind}
use Rattle.nvram.specs.declared.state.Kind.TheVariants.{Empty, Invalid, Valid}
use Rattle.nvram.specs.declared.state.Entry.{Entry}
use Rattle.nvram.specs.declared.state.Nvram.{Nvram}
use Rattle.nvram.specs.Part.{entry, entry_of, view_slot}
use Rattle.nvram.specs.Layout.{lay_table, lay_state, lay_parts, lay_work, is_empty, is_free, all_free, prepend_slot, view_slots, book_with, in_range, view}
use Rattle.nvram.proofs.SlotLaws.{slot_length, slot_view, Laid, slot_back, held}

-- lengths

pub length_parts : (ss : List Slot) → FineSlots ss → length (lay_parts ss) ≡ length ss * part_size
unfolding lay_parts
length_parts [] f = sym (zero-mul part_size)
length_parts (s ∷ ss) f =
    length-append (part_of part_size s) (lay_parts ss)
    ∙ omega (arith, slot_length s f.0, length_parts ss f.1, suc-mul (length ss) part_size)

module _ (b : Book) (f : FineBook b) where
  pub length_banks : length (lay_parts b.slots) ≡ b.n * part_size
  length_banks = length_parts b.slots f.slots_fine ∙ ap (λ (j : ℕ). j * part_size) f.long

  pub work_long : (w : List ℕ) → b.n * part_size ≤ length (lay_work b w)
  unfolding lay_work
  work_long w = simp (length-append, length_banks) (omega arith)

-- one slot of many

-- the parts before slot i and after it, whatever stands in it
pub record Split (ss : List Slot) (i : ℕ) : Type 0 where
  pub pre : List ℕ
  pub post : List ℕ
  pub len : length pre ≡ i * part_size
  pub at : (x : Slot) → lay_parts (set ss i x) ≡ pre ++ (part_of part_size x ++ post)

pub split : (ss : List Slot) (i : ℕ) → i < length ss → FineSlots ss → Split ss i
unfolding lay_parts
split [] i h f = absurd (omega arith)
split (s ∷ ss) zero h f = record { pre = []; post = lay_parts ss; len = sym (zero-mul part_size); at = λ x. refl }
split (s ∷ ss) (suc i) h f =
    let r = split ss i (omega arith) f.1 in
    record {
      pre = part_of part_size s ++ r.pre;
      post = r.post;
      len = length-append (part_of part_size s) r.pre ∙ omega (arith, slot_length s f.0, r.len, suc-mul i part_size);
      at = λ x.
          ap (λ (l : List ℕ). part_of part_size s ++ l) (r.at x) ∙ sym (append_assoc (part_of part_size s) r.pre (part_of part_size x ++ r.post));
    }

entries_at : (ss : List Slot) (es : List Entry) (i : ℕ) → i < length ss
    → get_or (map entry_of ss ++ es) i (entry Empty 0 0) ≡ entry_of (get_or ss i invalid)
entries_at [] es i h = absurd (omega arith)
entries_at (s ∷ ss) es zero h = refl
entries_at (s ∷ ss) es (suc i) h = entries_at ss es i (omega arith)

entries_set : (ss : List Slot) (es : List Entry) (i : ℕ) (x : Slot) → i < length ss
    → map entry_of (set ss i x) ++ es ≡ set (map entry_of ss ++ es) i (entry_of x)
entries_set [] es i x h = absurd (omega arith)
entries_set (s ∷ ss) es zero x h = refl
entries_set (s ∷ ss) es (suc i) x h = ap (λ (l : List Entry). entry_of s ∷ l) (entries_set ss es i x (omega arith))

pub table_at : (ss : List Slot) (i : ℕ) → i < length ss → get_or (lay_table ss) i (entry Empty 0 0) ≡ entry_of (get_or ss i invalid)
unfolding lay_table
table_at ss i h = entries_at ss (replicate (16 - length ss) (entry Empty 0 0)) i h

pub table_set : (ss : List Slot) (i : ℕ) (x : Slot) → i < length ss → lay_table (set ss i x) ≡ set (lay_table ss) i (entry_of x)
unfolding lay_table
table_set ss i x h = rw (length-set ss i x) (entries_set ss (replicate (16 - length ss) (entry Empty 0 0)) i x h)

-- free entries

all_free_lem : (n : ℕ) → all_free (replicate n (entry Empty 0 0)) ≡ true
all_free_lem zero = refl
all_free_lem (suc n) = all_free_lem n

empty_kind : (k : Kind) → is_empty k ≡ true → k ≡ Empty
empty_kind Empty e = refl
empty_kind Invalid e = clash cc
empty_kind Valid e = clash cc

free_entry : (e : Entry) → is_free e ≡ true → e ≡ entry Empty 0 0
free_entry e h =
    let a = and_both _ _ h in
    let b = and_both _ _ a.1 in
    let k : e.kind ≡ Empty = empty_kind e.kind a.0 in
    let t : e.total ≡ 0 = eqb-true _ _ b.0 in
    let u : e.usable ≡ 0 = eqb-true _ _ b.1 in
    λ i. record { kind = k i; total = t i; usable = u i }

free_back : (es : List Entry) → all_free es ≡ true → es ≡ replicate (length es) (entry Empty 0 0)
free_back [] h = refl
free_back (e ∷ es) h =
    let a = and_both _ _ h in
    ap₂ (λ (x : Entry) (l : List Entry). x ∷ l) (free_entry e a.0) (free_back es a.1)

-- slots, laid out and taken back

slots_view : (ss : List Slot) (m : ℕ) (t : List ℕ) → FineSlots ss
    → view_slots (length ss) (map entry_of ss ++ replicate m (entry Empty 0 0)) (lay_parts ss ++ t) ≡ Some ss
unfolding view_slots lay_parts prepend_slot
slots_view [] m t f = ap (λ (b : Bool). cond b (Some []) None) (all_free_lem m)
slots_view (s ∷ ss) m t f =
    let l = slot_length s f.0 in
    let es : List Entry = map entry_of ss ++ replicate m (entry Empty 0 0) in
    let a : take part_size ((part_of part_size s ++ lay_parts ss) ++ t) ≡ part_of part_size s =
    ap (take part_size) (append_assoc (part_of part_size s) (lay_parts ss) t) ∙ take_at (part_of part_size s) (lay_parts ss ++ t) part_size l in
    let d : drop part_size ((part_of part_size s ++ lay_parts ss) ++ t) ≡ lay_parts ss ++ t =
    ap (drop part_size) (append_assoc (part_of part_size s) (lay_parts ss) t) ∙ drop_at (part_of part_size s) (lay_parts ss ++ t) part_size l in
    ap₂ prepend_slot (ap (view_slot (entry_of s)) a ∙ slot_view s f.0) (ap (view_slots (length ss) es) d ∙ slots_view ss m t f.1)

-- a book that is laid out is viewed again
pub view_lay : (b : Book) (tally : Tally) (w : List ℕ) → FineBook b → view (lay_state b tally) (lay_work b w) ≡ Some b
unfolding view lay_table lay_work book_with
view_lay b tally w f =
    let ss = b.slots in
    let m : b.n * part_size ≤ length (lay_parts ss ++ drop (b.n * part_size) w) = work_long b f w in
    let v : view_slots b.n (map entry_of ss ++ replicate (16 - length ss) (entry Empty 0 0)) (lay_parts ss ++ drop (b.n * part_size) w) ≡ Some ss =
    ap (λ (j : ℕ). view_slots j (map entry_of ss ++ replicate (16 - length ss) (entry Empty 0 0)) (lay_parts ss ++ drop (b.n * part_size) w)) (sym f.long)
    ∙ slots_view ss (16 - length ss) (drop (b.n * part_size) w) f.slots_fine in
    rw (le-leb _ _ f.low, le-leb _ _ f.high, lt-ltb _ _ f.inside, le-leb _ _ m, v)

-- slots, taken back and laid out

prepend_some : (a : Option Slot) (o : Option (List Slot)) (ss : List Slot) → prepend_slot a o ≡ Some ss
    → (s : Slot) × (qs : List Slot) × (a ≡ Some s) × (o ≡ Some qs) × (s ∷ qs ≡ ss)
unfolding prepend_slot
prepend_some None o ss e = clash cc
prepend_some (Some s) None ss e = clash cc
prepend_some (Some s) (Some qs) ss e = (s, qs, refl, refl, cc)

record LaidSlots (n : ℕ) (es : List Entry) (w : List ℕ) (ss : List Slot) : Type 0 where
  pub table : es ≡ map entry_of ss ++ replicate (length es - n) (entry Empty 0 0)
  pub parts : take (n * part_size) w ≡ lay_parts ss
  pub long : length ss ≡ n
  pub fine : FineSlots ss

laid_none : (es : List Entry) (w : List ℕ) → all_free es ≡ true → LaidSlots 0 es w []
unfolding lay_parts
laid_none es w h =
    record {
      table = free_back es h ∙ ap (λ (j : ℕ). replicate j (entry Empty 0 0)) (sym (sub-zero (length es)));
      parts = ap (λ (j : ℕ). take j w) (zero-mul part_size);
      long = refl;
      fine = tt;
    }

laid_more : (n : ℕ) (e : Entry) (es : List Entry) (w : List ℕ) (s : Slot) (ss : List Slot) → Laid e (take part_size w) s
    → LaidSlots n es (drop part_size w) ss
    → LaidSlots (suc n) (e ∷ es) w (s ∷ ss)
unfolding lay_parts
laid_more n e es w s ss a r =
    let k : suc n * part_size ≡ part_size + n * part_size = omega (arith, suc-mul n part_size) in
    record {
      table = ap₂ (λ (x : Entry) (l : List Entry). x ∷ l) a.0
          (r.table ∙ ap (λ (j : ℕ). map entry_of ss ++ replicate j (entry Empty 0 0)) (sym (suc-sub-suc (length es) n)));
      parts = ap (λ (j : ℕ). take j w) k ∙ take-add part_size (n * part_size) w ∙ ap₂ (λ (x l : List ℕ). x ++ l) a.1 r.parts;
      long = ap suc r.long;
      fine = (a.2, r.fine);
    }

pub record Range (s : Nvram) (w : List ℕ) : Type 0 where
  pub low : 1 ≤ s.n
  pub high : s.n ≤ 16
  pub inside : s.active < s.n
  pub room : s.n * part_size ≤ length w

pub range_back : (s : Nvram) (w : List ℕ) → in_range s w ≡ true → Range s w
range_back s w e =
    let a = and_both _ _ e in
    let b = and_both _ _ a.1 in
    let c = and_both _ _ b.1 in
    record {
      low = leb-true _ _ a.0;
      high = leb-true _ _ b.0;
      inside = ltb-true _ _ c.0;
      room = leb-true _ _ c.1;
    }

book_some : (s : Nvram) (o : Option (List Slot)) (b : Book) → book_with s o ≡ Some b
    → (ss : List Slot) × (o ≡ Some ss) × (record { n = s.n; active = s.active; slots = ss } ≡ b)
unfolding book_with
book_some s None b e = clash cc
book_some s (Some ss) b e = (ss, refl, cc)

slots_back : (n : ℕ) (es : List Entry) (w : List ℕ) (ss : List Slot) → Bytes w → n * part_size ≤ length w
    → view_slots n es w ≡ Some ss → LaidSlots n es w ss
unfolding view_slots
slots_back zero es w ss y l v =
    let o = held (all_free es) (Some []) ss v in
    let q : [] ≡ ss = cc o.1 in
    subst (LaidSlots 0 es w) q (laid_none es w o.0)
slots_back (suc n) [] w ss y l v = clash cc
slots_back (suc n) (e ∷ es) w ss y l v =
    let o = prepend_some (view_slot e (take part_size w)) (view_slots n es (drop part_size w)) ss v in
    let m : n * part_size + part_size ≤ length w = rw suc-mul at l in
    let a = slot_back e (take part_size w) o.0 (below_take part_size w y) (length-take-le part_size w (omega arith)) o.2 in
    let r = slots_back n es (drop part_size w) o.1 (below_drop part_size w y) (omega (arith, length-drop part_size w)) o.3 in
    subst (LaidSlots (suc n) (e ∷ es) w) o.4 (laid_more n e es w o.0 o.1 a r)

-- what is viewed was laid out so
pub lay_view : (s : Nvram) (w : List ℕ) (b : Book) → Bytes w → length s.banks ≡ 16 → view s w ≡ Some b
    → (s ≡ lay_state b s.tally) × (w ≡ lay_work b w) × FineBook b
unfolding view lay_table lay_work
lay_view s w b y n v =
    let o = held (in_range s w) _ b v in
    let r = range_back s w o.0 in
    let q = book_some s (view_slots s.n s.banks w) b o.1 in
    let l = slots_back s.n s.banks w q.0 y r.room q.1 in
    let k : length s.banks - s.n ≡ 16 - length q.0 = omega (arith, l.long) in
    let t : s.banks ≡ map entry_of q.0 ++ replicate (16 - length q.0) (entry Empty 0 0) =
    l.table ∙ ap (λ (j : ℕ). map entry_of q.0 ++ replicate j (entry Empty 0 0)) k in
    subst (λ (x : Book). (s ≡ lay_state x s.tally) × (w ≡ lay_work x w) × FineBook x) q.2 (
      (λ i. record { n = s.n; active = s.active; tally = s.tally; banks = t i }),
      sym (take-append-drop (s.n * part_size) w) ∙ ap (λ (x : List ℕ). x ++ drop (s.n * part_size) w) l.parts,
      record { low = r.low; high = r.high; inside = r.inside; long = l.long; slots_fine = l.fine },
    )
