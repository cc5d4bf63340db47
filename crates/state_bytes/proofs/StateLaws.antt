-- A state's bytes are read back as the state, and the bytes of a state that was read are those that it was read from.
use Prim.Native.Nat.{ℕ, zero, suc, ◌+◌, ◌*◌, ◌≤◌, ◌<◌}
use mathlib.Core.Path.{◌≡◌, refl, sym, ap, ap₂, ◌∙◌, subst}
use mathlib.Core.List.{List, [], ◌∷◌, ◌++◌, append_assoc}
use mathlib.Core.Bool.{Bool, true, false, ◌&&◌, cond}
use Rattle.std.specs.Prelude.{None, Some}
use native.Mathlib.Omega.{arith}
use lib.Dec.{leb}
use lib.ListN.{length, drop, replicate, length-append, length-drop}
use lib.Seq.{drop-drop}
use borrow.Author.Tests.{le-leb, leb-true}
use Rattle.crc32.specs.Crc32.{Bytes}
use Rattle.buffers.proofs.BelowLaws.{below_drop}
use Rattle.buffers.proofs.Laws.{clash}
use Rattle.tally.specs.declared.Caller.TheVariants.{Clock, Barrel}
use Rattle.tally.specs.Tally.{tally_of}
use Rattle.bank.specs.Number.{u32_at, le32}
use Rattle.bank.proofs.NumberLaws.{u32_sum, u32_lt}
use Rattle.bank.proofs.Normal.{u32_split}
use Rattle.nvram.specs.declared.state.Kind.{Kind}
use Rattle.nvram.specs.declared.state.Kind.TheVariants.{Empty, Invalid, Valid}
use Rattle.nvram.specs.declared.state.Entry.{Entry}
use Rattle.nvram.specs.declared.state.Nvram.{Nvram}
use Rattle.nvram.specs.Kind.{kind_number}
use Rattle.nvram.specs.Contract.{no_state}
use Rattle.state_bytes.specs.State.{state_head, entry_size, state_size, three, four, entry_bytes, entries_bytes, state_bytes, stored, kind_of, entry_at, entries_at, state_at, kinds_known, read_state, FineEntries, FineState}

-- lengths

pub length_three : (a b c : ℕ) → length (three a b c) ≡ 12
unfolding le32
length_three a b c = refl

pub length_four : (a b c d : ℕ) → length (four a b c d) ≡ state_head
unfolding le32
length_four a b c d = refl

pub length_entries : (es : List Entry) → length (entries_bytes es) ≡ entry_size * length es
unfolding entries_bytes
length_entries [] = refl
length_entries (e ∷ es) =
    length-append (entry_bytes e) (entries_bytes es) ∙ omega (arith, length_three (kind_number e.kind) e.total e.usable, length_entries es)

abbrev head_bytes : Nvram → List ℕ
head_bytes s = four s.n s.active s.tally.clock s.tally.barrel

pub length_state : (s : Nvram) → length s.banks ≡ 16 → length (state_bytes s) ≡ state_size
unfolding state_bytes
length_state s h =
    length-append (head_bytes s) (entries_bytes s.banks) ∙ omega (arith, length_four s.n s.active s.tally.clock s.tally.barrel, length_entries s.banks)

pub length_read : (n : ℕ) (bs : List ℕ) → length (entries_at n bs) ≡ n
unfolding entries_at
length_read zero bs = refl
length_read (suc n) bs = ap suc (length_read n (drop entry_size bs))

-- a refused opening's state is zeros
pub no_state_zeros : state_bytes no_state ≡ replicate state_size 0
unfolding state_bytes entries_bytes le32
no_state_zeros = refl

-- a state's bytes, read

record Three (a b c : ℕ) (q : List ℕ) : Type 0 where
  first : u32_at (three a b c ++ q) 0 ≡ a
  second : u32_at (three a b c ++ q) 4 ≡ b
  third : u32_at (three a b c ++ q) 8 ≡ c
  rest : drop 12 (three a b c ++ q) ≡ q

three_back : (a b c : ℕ) (q : List ℕ) → a < 4294967296 → b < 4294967296 → c < 4294967296 → Three a b c q
unfolding u32_at le32
three_back a b c q x y z = record { first = u32_sum a x; second = u32_sum b y; third = u32_sum c z; rest = refl }

record Four (a b c d : ℕ) (q : List ℕ) : Type 0 where
  first : u32_at (four a b c d ++ q) 0 ≡ a
  second : u32_at (four a b c d ++ q) 4 ≡ b
  third : u32_at (four a b c d ++ q) 8 ≡ c
  fourth : u32_at (four a b c d ++ q) 12 ≡ d
  rest : drop state_head (four a b c d ++ q) ≡ q

four_back : (a b c d : ℕ) (q : List ℕ) → a < 4294967296 → b < 4294967296 → c < 4294967296 → d < 4294967296 → Four a b c d q
unfolding u32_at le32
four_back a b c d q x y z v =
    let t = three_back b c d q y z v in record { first = u32_sum a x; second = t.first; third = t.second; fourth = t.third; rest = t.rest }

pub kind_small : (k : Kind) → kind_number k ≤ 2
kind_small Empty = omega arith
kind_small Invalid = omega arith
kind_small Valid = omega arith

pub kind_back : (k : Kind) → kind_of (kind_number k) ≡ k
kind_back Empty = refl
kind_back Invalid = refl
kind_back Valid = refl

entry_three : (e : Entry) (q : List ℕ) → e.total < 4294967296 → e.usable < 4294967296 → Three (kind_number e.kind) e.total e.usable q
entry_three e q x y = let h = kind_small e.kind in three_back (kind_number e.kind) e.total e.usable q (omega arith) x y

entry_back : (e : Entry) (q : List ℕ) → e.total < 4294967296 → e.usable < 4294967296 → entry_at (entry_bytes e ++ q) ≡ e
unfolding entry_at
entry_back e q x y =
    let t = entry_three e q x y in
    λ i. record { kind = (ap kind_of t.first ∙ kind_back e.kind) i; total = t.second i; usable = t.third i }

known_back : (es : List Entry) (q : List ℕ) → FineEntries es → kinds_known (length es) (entries_bytes es ++ q) ≡ true
unfolding kinds_known entries_bytes
known_back [] q f = refl
known_back (e ∷ es) q f =
    let t = entry_three e (entries_bytes es ++ q) f.0.0 f.0.1 in
    rw (append_assoc (entry_bytes e) (entries_bytes es) q, t.first, t.rest, le-leb _ _ (kind_small e.kind)) (known_back es q f.1)

entries_back : (es : List Entry) (q : List ℕ) → FineEntries es → entries_at (length es) (entries_bytes es ++ q) ≡ es
unfolding entries_at entries_bytes
entries_back [] q f = refl
entries_back (e ∷ es) q f =
    let p = entries_bytes es ++ q in
    ap (entries_at (suc (length es))) (append_assoc (entry_bytes e) (entries_bytes es) q)
    ∙ ap₂ (λ (x : Entry) (xs : List Entry). x ∷ xs) (entry_back e p f.0.0 f.0.1)
    (ap (entries_at (length es)) (entry_three e p f.0.0 f.0.1).rest ∙ entries_back es q f.1)

pub read_known : (bs : List ℕ) → state_size ≤ length bs → kinds_known 16 (drop state_head bs) ≡ true → read_state bs ≡ Some (state_at bs)
unfolding read_state
read_known bs h k = rw (le-leb _ _ h, k)

pub state_back : (s : Nvram) (rest : List ℕ) → FineState s → read_state (state_bytes s ++ rest) ≡ Some s
unfolding state_at state_bytes
state_back s rest f =
    let es = s.banks in
    let head = head_bytes s in
    let q = entries_bytes es ++ rest in
    let t = four_back s.n s.active s.tally.clock s.tally.barrel q f.n_fits f.active_fits (f.tally_fine Clock) (f.tally_fine Barrel) in
    let room : state_size ≤ length (head ++ q) =
    omega
    (arith, length-append head q, length-append (entries_bytes es) rest, length_four s.n s.active s.tally.clock s.tally.barrel, length_entries es, f.banks_long) in
    let known : kinds_known 16 (drop state_head (head ++ q)) ≡ true =
    ap₂ kinds_known (sym f.banks_long) t.rest ∙ known_back es rest f.banks_fine in
    let banks : entries_at 16 (drop state_head (head ++ q)) ≡ es =
    ap₂ entries_at (sym f.banks_long) t.rest ∙ entries_back es rest f.banks_fine in
    ap read_state (append_assoc head (entries_bytes es) rest) ∙ read_known (head ++ q) room known
    ∙ (λ i. Some (record { n = t.first i; active = t.second i; tally = record { clock = t.third i; barrel = t.fourth i }; banks = banks i }))

-- what one call stores, the next reads
pub stored_back : (s : Nvram) (bs : List ℕ) → FineState s → read_state (stored s bs) ≡ Some s
unfolding stored
stored_back s bs f = state_back s (drop state_size bs) f

-- a state that was read, in bytes

pub record Read (bs : List ℕ) (s : Nvram) : Type 0 where
  pub room : state_size ≤ length bs
  pub known : kinds_known 16 (drop state_head bs) ≡ true
  pub is : s ≡ state_at bs

pub read_is : (bs : List ℕ) (s : Nvram) → read_state bs ≡ Some s → Read bs s
unfolding read_state
read_is bs s e = go (leb state_size (length bs)) (kinds_known 16 (drop state_head bs)) refl refl e
  where
    go : (a b : Bool) → leb state_size (length bs) ≡ a → kinds_known 16 (drop state_head bs) ≡ b → cond (a && b) (Some (state_at bs)) None ≡ Some s → Read bs s
    go true true p q e = record { room = leb-true _ _ p; known = q; is = cc }
    go true false p q e = clash cc
    go false b p q e = clash cc

-- three numbers from a place on
three_from : (bs : List ℕ) (at : ℕ) → Bytes bs → at + 12 ≤ length bs
    → drop at bs ≡ three (u32_at bs at) (u32_at bs (at + 4)) (u32_at bs (at + 8)) ++ drop (at + 12) bs
unfolding le32
three_from bs at k h =
    let e : at + 4 + 4 ≡ at + 8 = omega arith in
    let f : at + 8 + 4 ≡ at + 12 = omega arith in
    u32_split bs at k (omega arith)
    ∙ ap (λ (r : List ℕ). le32 (u32_at bs at) ++ r)
    (u32_split bs (at + 4) k (omega arith)
    ∙ ap (λ (r : List ℕ). le32 (u32_at bs (at + 4)) ++ r)
    (ap (λ (n : ℕ). drop n bs) e ∙ u32_split bs (at + 8) k (omega arith) ∙ ap (λ (n : ℕ). le32 (u32_at bs (at + 8)) ++ drop n bs) f))

four_split : (bs : List ℕ) → Bytes bs → state_head ≤ length bs → four (u32_at bs 0) (u32_at bs 4) (u32_at bs 8) (u32_at bs 12) ++ drop state_head bs ≡ bs
unfolding le32
four_split bs k h = sym (u32_split bs 0 k (omega arith) ∙ ap (λ (r : List ℕ). le32 (u32_at bs 0) ++ r) (three_from bs 4 k (omega arith)))

kind_known : (k : ℕ) → k ≤ 2 → kind_number (kind_of k) ≡ k
kind_known zero h = refl
kind_known (suc zero) h = refl
kind_known (suc (suc zero)) h = refl
kind_known (suc (suc (suc k))) h = absurd (omega arith)

entry_split : (bs : List ℕ) → Bytes bs → entry_size ≤ length bs → u32_at bs 0 ≤ 2 → entry_bytes (entry_at bs) ++ drop entry_size bs ≡ bs
unfolding entry_at
entry_split bs k h e = ap (λ (n : ℕ). three n (u32_at bs 4) (u32_at bs 8) ++ drop entry_size bs) (kind_known (u32_at bs 0) e) ∙ sym (three_from bs 0 k h)

entries_split : (n : ℕ) (bs : List ℕ) → Bytes bs → entry_size * n ≤ length bs → kinds_known n bs ≡ true → entries_bytes (entries_at n bs) ++ drop (entry_size * n) bs ≡ bs
unfolding kinds_known entries_at entries_bytes
entries_split zero bs k h e = refl
entries_split (suc n) bs k h e = go (leb (u32_at bs 0) 2) refl (entries_split n (drop entry_size bs) (below_drop entry_size bs k) (omega (arith, length-drop entry_size bs))) e
  where
    go : (t : Bool) → leb (u32_at bs 0) 2 ≡ t
        → (kinds_known n (drop entry_size bs) ≡ true → entries_bytes (entries_at n (drop entry_size bs)) ++ drop (entry_size * n) (drop entry_size bs) ≡ drop entry_size bs)
        → (t && kinds_known n (drop entry_size bs)) ≡ true
        → (entry_bytes (entry_at bs) ++ entries_bytes (entries_at n (drop entry_size bs))) ++ drop (entry_size * suc n) bs ≡ bs
    go true p f e =
        let m : entry_size * suc n ≡ entry_size + entry_size * n = omega arith in
        append_assoc (entry_bytes (entry_at bs)) (entries_bytes (entries_at n (drop entry_size bs))) (drop (entry_size * suc n) bs)
        ∙ ap (λ (q : List ℕ). entry_bytes (entry_at bs) ++ (entries_bytes (entries_at n (drop entry_size bs)) ++ q))
        (ap (λ (i : ℕ). drop i bs) m ∙ sym (drop-drop (entry_size * n) entry_size bs))
        ∙ ap (λ (q : List ℕ). entry_bytes (entry_at bs) ++ q) (f e)
        ∙ entry_split bs k (omega arith) (leb-true _ _ p)
    go false p f e = clash cc

pub bytes_back : (bs : List ℕ) (s : Nvram) → Bytes bs → read_state bs ≡ Some s → stored s bs ≡ bs
unfolding stored state_bytes state_at
bytes_back bs s k e =
    let r = read_is bs s e in
    let head = four (u32_at bs 0) (u32_at bs 4) (u32_at bs 8) (u32_at bs 12) in
    let es = entries_bytes (entries_at 16 (drop state_head bs)) in
    ap (λ (x : Nvram). stored x bs) r.is ∙ append_assoc head es (drop state_size bs)
    ∙ ap (λ (q : List ℕ). head ++ (es ++ q)) (sym (drop-drop (16 * entry_size) state_head bs))
    ∙ ap (λ (q : List ℕ). head ++ q) (entries_split 16 (drop state_head bs) (below_drop state_head bs k) (omega (arith, r.room, length-drop state_head bs)) r.known)
    ∙ four_split bs k (omega (arith, r.room))

read_entries_fine : (n : ℕ) (bs : List ℕ) → Bytes bs → FineEntries (entries_at n bs)
unfolding entries_at entry_at
read_entries_fine zero bs k = tt
read_entries_fine (suc n) bs k = ((u32_lt bs 4 k, u32_lt bs 8 k), read_entries_fine n (drop entry_size bs) (below_drop entry_size bs k))

pub read_state_fine : (bs : List ℕ) (s : Nvram) → Bytes bs → read_state bs ≡ Some s → FineState s
unfolding state_at
read_state_fine bs s k e =
    let fine : FineState (state_at bs) =
    record {
      n_fits = u32_lt bs 0 k;
      active_fits = u32_lt bs 4 k;
      tally_fine = λ caller. elim caller as (λ caller. tally_of caller (state_at bs).tally < 4294967296) [ Clock ↦ u32_lt bs 8 k | Barrel ↦ u32_lt bs 12 k ];
      banks_long = length_read 16 (drop state_head bs);
      banks_fine = read_entries_fine 16 (drop state_head bs) (below_drop state_head bs k);
    } in
    subst FineState (sym (read_is bs s e).is) fine
