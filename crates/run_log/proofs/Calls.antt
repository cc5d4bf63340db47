-- What a caller finds in its output, and what one of reader and writer makes of what the other left there. Laws to be read: nothing but the
-- exports' contract uses them.
use Prim.Native.Nat.{ℕ, ◌*◌, ◌/◌, ◌≤◌}
use mathlib.Core.Path.{◌≡◌, refl, sym, ap, ◌∙◌}
use mathlib.Core.List.{List, []}
use native.Mathlib.Omega.{arith}
use lib.ListN.{length, take, drop}
use Rattle.std.specs.Prelude.{Result, Ok, Err}
use Rattle.buffers.specs.Bytes.{AllBelow}
use Rattle.leb128.specs.Leb128.{decoded_groups, below32, decoded, by_number}
use Rattle.refusal.specs.declared.Refusal.{Refusal}
use Rattle.refusal.specs.declared.Refusal.TheVariants.{LogNumber, LogLength}
use Rattle.refusal.specs.Refusal.{number_of}
use Rattle.run_log.specs.Output.{fit, count_of, Answered}
use Rattle.run_log.specs.RunLog.{log_bytes, write_log, writing, read_log, reading}
use Rattle.run_log.proofs.Results.{Shows, shown, fit_room, fit_gives, fit_shows, accepted_gives, given_front, rest_stays}
use Rattle.run_log.proofs.Reading.{Taken, log_shows}
use Rattle.run_log.proofs.Writing.{Made, write_shows}
use Rattle.run_log.proofs.Inverse.{taken_bytes, taken_most, read_write, write_read}

-- the reader's refusals are 16 and more, the writer's 17 and more: never 16
pub reading_shows : (s : List ℕ) (room : ℕ) → Shows 16 (Taken s) (reading s room)
unfolding reading
reading_shows s room = fit_shows LogLength room (omega arith) (log_shows s)

pub writing_shows : (ns : List ℕ) (room : ℕ) → Shows 17 (Made ns) (writing ns room)
unfolding writing
writing_shows ns room = fit_shows LogLength room (omega arith) (write_shows ns)

pub empty_refused : (room : ℕ) → reading [] room ≡ Err LogNumber
unfolding reading read_log decoded below32 decoded_groups by_number fit
empty_refused room = refl

-- a call of the reader
module _ (s : List ℕ) {out out' : List ℕ} {a : Result ℕ Refusal} (h : Answered 3 (reading s (length out)) out a out') where
  read_threes : (ns : List ℕ) → reading s (length out) ≡ Ok ns → length ns ≡ 3 * (length ns / 3)
  read_threes ns e = omega (arith, (shown (reading_shows s (length out)) e).entered.threes)

  pub read_stays : drop (3 * count_of a) out' ≡ drop (3 * count_of a) out
  read_stays = rest_stays 3 (reading s (length out)) h read_threes

  module _ (b : AllBelow 256 s) (z : number_of a ≡ 0) where
    entries : (ns : List ℕ) × (reading s (length out) ≡ Ok ns)
    entries = accepted_gives 3 (omega arith) (reading_shows s (length out)) h.answer z

    front : take (3 * count_of a) out' ≡ entries.0
    front = given_front 3 h entries.1 (read_threes entries.0 entries.1)

    -- accepted: the log of the entries that are given
    pub read_log_lem : s ≡ log_bytes (take (3 * count_of a) out')
    read_log_lem = taken_bytes b (shown (reading_shows s (length out)) entries.1) ∙ ap log_bytes (sym front)

    -- and what the writer makes of them, given room
    pub read_then_write : (room : ℕ) → length s ≤ room → writing (take (3 * count_of a) out') room ≡ Ok s
    unfolding writing reading
    read_then_write room l =
        let e = fit_gives LogLength (length out) (read_log s) entries.0 entries.1 in
        ap (λ (x : List ℕ). fit LogLength room (write_log x)) front ∙ fit_room LogLength room (read_write s entries.0 b e) l

-- a call of the writer
module _ (ns : List ℕ) {out out' : List ℕ} {a : Result ℕ Refusal} (h : Answered 1 (writing ns (length out)) out a out') where
  one : 1 * count_of a ≡ count_of a
  one = omega arith

  pub write_stays : drop (count_of a) out' ≡ drop (count_of a) out
  write_stays = rw one at (rest_stays 1 (writing ns (length out)) h (λ s e. omega arith))

  -- accepted: the reader gives the entries back, given room
  pub write_then_read : AllBelow 4294967296 ns → number_of a ≡ 0 → (room : ℕ) → length ns ≤ room → reading (take (count_of a) out') room ≡ Ok ns
  unfolding writing reading
  write_then_read w z room l =
      let f = accepted_gives 1 (omega arith) (writing_shows ns (length out)) h.answer z in
      let e = fit_gives LogLength (length out) (write_log ns) f.0 f.1 in
      let s : take (count_of a) out' ≡ f.0 = rw one at (given_front 1 h f.1 (omega arith)) in
      ap (λ (x : List ℕ). fit LogLength room (read_log x)) s ∙ fit_room LogLength room (write_read ns f.0 w e) l

-- 4,092 numbers are room for any log, 4,096 bytes for any entries
fit_all : (room : ℕ) (r : Result (List ℕ) Refusal) → ((xs : List ℕ) → r ≡ Ok xs → length xs ≤ room) → fit LogLength room r ≡ r
unfolding fit
fit_all room (Err k) h = refl
fit_all room (Ok xs) h = fit_room LogLength room refl (h xs refl)

pub read_room : (s : List ℕ) (room : ℕ) → AllBelow 256 s → 4092 ≤ room → reading s room ≡ read_log s
unfolding reading
read_room s room b l = fit_all room (read_log s) (λ ns e. omega (arith, taken_most b (shown (log_shows s) e)))

pub write_room : (ns : List ℕ) (room : ℕ) → 4096 ≤ room → writing ns room ≡ write_log ns
unfolding writing
write_room ns room l = fit_all room (write_log ns) (λ s e. omega (arith, (shown (write_shows ns) e).size))
