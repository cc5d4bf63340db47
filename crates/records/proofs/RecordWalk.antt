-- Walking over records in the work area: what stands at a place (`RecordHere`), and the loops that delete (`ToDelete`) and find (`Look`).
use Prim.Native.Nat.{ℕ, ◌+◌, ◌-◌, ◌≤◌, ◌<◌}
use mathlib.Core.Path.{◌≡◌, refl, sym, ap, ap₂, ◌∙◌, subst}
use mathlib.Core.List.{List, [], ◌∷◌, ◌++◌, append_assoc}
use mathlib.Core.Bool.{true, false}
use Rattle.std.specs.Prelude.{Option, None, Some}
use native.Mathlib.Omega.{arith}
use lib.ListN.{length, take, drop, length-append, length-drop}
use lib.Seq.{take_at, drop_at, drop-drop, length-take-le}
use Rattle.buffers.specs.Bytes.{over}
use Rattle.buffers.proofs.LoopSteps.{tail, part}
use Rattle.buffers.proofs.OverLaws.{over_none, over_over, length_over, drop_over, put_tail}
use Rattle.bank.specs.declared.variable.VarType.{VarType}
use Rattle.bank.specs.declared.variable.VarHeader.{VarHeader}
use Rattle.bank.specs.Answer.{parsed_header}
use Rattle.bank.specs.Record.{Record, record_of, size_of, name_at, value_at, size_at, record_bytes, records_bytes}
use Rattle.bank.specs.WellFormed.{FineRecord}
use Rattle.bank.proofs.WalkLaws.{size_pos}
use Rattle.bank.proofs.LengthLaws.{length_record, length_records}
use Rattle.bank.proofs.FieldLaws.{name_is, value_is}
use Rattle.bank.proofs.RecordBack.{record_of_back}
use Rattle.records.specs.declared.edit.Found.{Found}
use Rattle.records.specs.Match.{matches, deleted, removed, found_in}
use Rattle.records.specs.View.{is_record}
use Rattle.records.specs.Records.{Holds, deleted_at}
use Rattle.records.proofs.RecordLaws.{is_long, record_strict, size_back, name_back, value_back}
use Rattle.records.proofs.RecordLists.{fine_deleted, size_deleted, fine_removed, sizes_removed}
use Rattle.records.proofs.RecordSteps.{lent, size_read, deleted_at_lem}

-- the records fill the part that holds them
pub holds_size : (w : List ℕ) (from to : ℕ) (rs : List Record) → Holds w from to rs → from + length (records_bytes rs) ≡ to
holds_size w from to rs h =
    let l = h.low in
    let k = h.high in
    omega (arith, ap length h.is, length-take-le (to - from) (drop from w) (omega (arith, length-drop from w)))

-- the first record of several, x as it is lent from its place on
pub record RecordHere (w x : List ℕ) (at to : ℕ) (r : Record) (rs : List Record) : Type 0 where
  pub fine : FineRecord r
  pub bytes : x ≡ record_bytes r ++ drop (at + size_at x) w
  pub test : is_record x ≡ true
  pub same : record_of x ≡ r
  pub size : size_at x ≡ size_of r
  pub name : name_at x ≡ length r.key + 1
  pub value : value_at x ≡ length r.value
  pub more : 36 < size_at x
  pub within : at + size_at x ≤ to
  pub rest : Holds w (at + size_at x) to rs

pub here : (w : List ℕ) (at to : ℕ) (r : Record) (rs : List Record) → Holds w at to (r ∷ rs) → RecordHere w (lent w at) at to r rs
unfolding records_bytes
here w at to r rs h =
    let x = lent w at in
    let l = h.low in
    let k = h.high in
    let f = h.fine.0 in
    let y = records_bytes rs ++ drop to w in
    let d : drop at w ≡ record_bytes r ++ y =
    part w at to l ∙ ap (λ (z : List ℕ). z ++ drop to w) h.is ∙ append_assoc (record_bytes r) (records_bytes rs) (drop to w) in
    let e : x ≡ record_bytes r ++ y = tail w at ∙ d in
    let n : size_at x ≡ size_of r = ap size_at e ∙ size_back r y f in
    let m : length (record_bytes r) ≡ size_at x = length_record r f.guid_long ∙ sym n in
    let g : drop (at + size_at x) w ≡ y =
    sym (drop-drop (size_at x) at w) ∙ ap (drop (size_at x)) d ∙ drop_at (record_bytes r) y (size_at x) m in
    let o : at + (length (record_bytes r) + length (records_bytes rs)) ≡ to =
    omega (arith, holds_size w at to (r ∷ rs) h, length-append (record_bytes r) (records_bytes rs)) in
    let t : is_record x ≡ true = ap is_record e ∙ record_strict r y f in
    record {
      fine = f;
      bytes = e ∙ ap (λ (z : List ℕ). record_bytes r ++ z) (sym g);
      test = t;
      same = ap record_of e ∙ record_of_back r y f;
      size = n;
      name = ap name_at e ∙ name_back r y f;
      value = ap value_at e ∙ value_back r y f;
      more = omega (arith, n, size_pos r);
      within = omega (arith, o, m);
      rest =
          record {
            fine = h.fine.1;
            low = omega (arith, o, m);
            high = h.high;
            is = ap (take (to - (at + size_at x))) g ∙ take_at (records_bytes rs) (drop to w) (to - (at + size_at x)) (omega (arith, o, m));
          };
    }

-- a part that holds a record is not empty, and one that holds none is
pub none_left : (w : List ℕ) (at to : ℕ) (r : Record) (rs : List Record) → Holds w at to (r ∷ rs) → to ≤ at → ⊥
none_left w at to r rs h l = let k = here w at to r rs h in omega (arith, k.more, k.within)

pub some_left : (w : List ℕ) (at to : ℕ) → Holds w at to [] → at < to → ⊥
unfolding records_bytes
some_left w at to h l = omega (arith, holds_size w at to [] h)

-- deleting: what is left to do in w from a place on, and what it comes to
pub record ToDelete (key : List ℕ) (typ : VarType) (w : List ℕ) (at to : ℕ) (target : List ℕ) : Type 0 where
  pub todo : List Record
  pub holds : Holds w at to todo
  pub goal : over at (records_bytes (removed key typ todo)) w ≡ target

pub begin : {w : List ℕ} {from to : ℕ} {rs : List Record} (key : List ℕ) (typ : VarType) → Holds w from to rs
    → ToDelete key typ w from to (over from (records_bytes (removed key typ rs)) w)
begin {rs = rs} key typ h = record { todo = rs; holds = h; goal = refl }

-- one turn, with the part from the place on given back as y, and the size as n
pub record DeleteTurn (key : List ℕ) (typ : VarType) (w : List ℕ) (at to : ℕ) (target : List ℕ) : Type 0 where
  pub test : is_record (lent w at) ≡ true
  pub more : 36 < size_at (lent w at)
  pub within : at + size_at (lent w at) ≤ to
  pub next : (n : ℕ) (y : List ℕ) → n ≡ size_at (lent w at) → y ≡ deleted_at key typ (lent w at)
      → ToDelete key typ (take at w ++ (y ++ drop (length w - at) (drop at w))) (at + n) to target

module _ (key : List ℕ) (typ : VarType) (w : List ℕ) (at to : ℕ) (target : List ℕ) where
  turn_of : (todo : List Record) → Holds w at to todo → over at (records_bytes (removed key typ todo)) w ≡ target → at < to
      → DeleteTurn key typ w at to target
  unfolding records_bytes over
  turn_of [] h goal l = absurd (some_left w at to h l)
  turn_of (r ∷ rs) h goal l =
      let k = here w at to r rs h in
      let i = k.rest in
      let j = k.within in
      let wl = h.high in
      let x = lent w at in
      let f = fine_deleted key typ r k.fine in
      let d = record_bytes (deleted key typ r) in
      let q = records_bytes (removed key typ rs) in
      let n : length d ≡ size_at x = length_record (deleted key typ r) f.guid_long ∙ size_deleted key typ r ∙ sym k.size in
      let m : at + size_at x + length q ≡ to =
      omega (arith, length_records (removed key typ rs) (fine_removed key typ rs i.fine), sizes_removed key typ rs, length_records rs i.fine, holds_size w (at + size_at x) to rs i) in
      let fits : at + length d ≤ length w = omega arith in
      let put : (y : List ℕ) → y ≡ deleted_at key typ x → take at w ++ (y ++ drop (length w - at) (drop at w)) ≡ over at d w =
      λ y e. put_tail at w y
      ∙ ap (λ (z : List ℕ). take at w ++ z) (e ∙ ap (deleted_at key typ) k.bytes ∙ deleted_at_lem key typ r (drop (at + size_at x) w) k.fine ∙ ap (λ (p : ℕ). d ++ drop (at + p) w) (sym n)) in
      let left : ToDelete key typ (over at d w) (at + size_at x) to target =
      record {
        todo = rs;
        holds =
            record {
              fine = i.fine;
              low = k.within;
              high = omega (arith, length_over at d w fits);
              is = ap (take (to - (at + size_at x))) (drop_over at d w fits (at + size_at x) (omega arith)) ∙ i.is;
            };
        goal = over_over at (at + size_at x) d q w (omega arith) (omega arith) ∙ goal;
      } in
      record {
        test = k.test;
        more = k.more;
        within = k.within;
        next =
            λ p y e g. subst (λ (v : List ℕ). ToDelete key typ v (at + p) to target) (sym (put y g))
            (subst (λ (a : ℕ). ToDelete key typ (over at d w) (at + a) to target) (sym e) left);
      }

  done_of : (todo : List Record) → Holds w at to todo → over at (records_bytes (removed key typ todo)) w ≡ target → to ≤ at → w ≡ target
  unfolding records_bytes
  done_of [] h goal l = sym (over_none at w) ∙ goal
  done_of (r ∷ rs) h goal l = absurd (none_left w at to r rs h l)

pub turn : {key : List ℕ} {typ : VarType} {w : List ℕ} {at to : ℕ} {target : List ℕ} → ToDelete key typ w at to target → at < to → DeleteTurn key typ w at to target
turn {key} {typ} {w} {at} {to} {target} k l = turn_of key typ w at to target k.todo k.holds k.goal l

pub done : {key : List ℕ} {typ : VarType} {w : List ℕ} {at to : ℕ} {target : List ℕ} → ToDelete key typ w at to target → to ≤ at → w ≡ target
done {key} {typ} {w} {at} {to} {target} k l = done_of key typ w at to target k.todo k.holds k.goal l

-- finding: the records left to look at, and what is found in them
pub record Look (key : List ℕ) (typ : VarType) (w : List ℕ) (at to : ℕ) (o : Option Found) : Type 0 where
  pub todo : List Record
  pub holds : Holds w at to todo
  pub goal : found_in key typ at todo ≡ o

pub look : {w : List ℕ} {from to : ℕ} {rs : List Record} (key : List ℕ) (typ : VarType) → Holds w from to rs
    → Look key typ w from to (found_in key typ from rs)
look {rs = rs} key typ h = record { todo = rs; holds = h; goal = refl }

-- one turn, with the header h that was read at the place
pub record Seen (key : List ℕ) (typ : VarType) (w : List ℕ) (at to : ℕ) (o : Option Found) (h : VarHeader) : Type 0 where
  pub test : is_record (lent w at) ≡ true
  pub within : at + (36 + h.name_size + h.data_size) ≤ to
  pub hit : matches key typ (record_of (lent w at)) ≡ true → (n : ℕ) → n ≡ 36 + h.name_size + 0 → Some (record { place = at + n; long = h.data_size }) ≡ o
  pub next : matches key typ (record_of (lent w at)) ≡ false → (n : ℕ) → n ≡ 36 + h.name_size + h.data_size → Look key typ w (at + n) to o

module _ (key : List ℕ) (typ : VarType) (w : List ℕ) (at to : ℕ) (o : Option Found) where
  see_of : (todo : List Record) → Holds w at to todo → found_in key typ at todo ≡ o → at < to → (h : VarHeader) → h ≡ parsed_header (lent w at)
      → Seen key typ w at to o h
  unfolding found_in
  see_of [] held goal l h e = absurd (some_left w at to held l)
  see_of (r ∷ rs) held goal l h e =
      let k = here w at to r rs held in
      let x = lent w at in
      let long = is_long x k.test in
      let a = name_is x long h e in
      let b = value_is x long h e in
      let same : matches key typ (record_of x) ≡ matches key typ r = ap (matches key typ) k.same in
      record {
        test = k.test;
        within = omega (arith, k.within);
        hit =
            λ m n q.
            let t : matches key typ r ≡ true = sym same ∙ m in
            let p : at + n ≡ at + 36 + (length r.key + 1) = omega (arith, k.name) in
            ap₂ (λ (i j : ℕ). Some (record { place = i; long = j })) p (b ∙ k.value) ∙ rw t at goal;
        next =
            λ m n q.
            let t : matches key typ r ≡ false = sym same ∙ m in
            let p : n ≡ size_at x = size_read x k.test h e n q in
            subst (λ (i : ℕ). Look key typ w (at + i) to o) (sym p)
            record { todo = rs; holds = k.rest; goal = ap (λ (i : ℕ). found_in key typ (at + i) rs) k.size ∙ rw t at goal };
      }

  unseen_of : (todo : List Record) → Holds w at to todo → found_in key typ at todo ≡ o → to ≤ at → None ≡ o
  unfolding found_in
  unseen_of [] h goal l = goal
  unseen_of (r ∷ rs) h goal l = absurd (none_left w at to r rs h l)

pub see : {key : List ℕ} {typ : VarType} {w : List ℕ} {at to : ℕ} {o : Option Found} → Look key typ w at to o → at < to → (h : VarHeader)
    → h ≡ parsed_header (lent w at)
    → Seen key typ w at to o h
see {key} {typ} {w} {at} {to} {o} k l h e = see_of key typ w at to o k.todo k.holds k.goal l h e

pub unseen : {key : List ℕ} {typ : VarType} {w : List ℕ} {at to : ℕ} {o : Option Found} → Look key typ w at to o → to ≤ at → None ≡ o
unseen {key} {typ} {w} {at} {to} {o} k l = unseen_of key typ w at to o k.todo k.holds k.goal l
