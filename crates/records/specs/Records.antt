-- Records in the work area: that it holds some from a place up to another, where the one at a place ends, and the bytes once it is deleted.
use Rattle.std.specs.Prelude.{ℕ, ◌+◌, ◌-◌, ◌≤◌, ◌≡◌, List, cond, length, get_or, set, take, drop, Option, None, Some}
use Rattle.bank.specs.declared.variable.VarType.{VarType}
use Rattle.bank.specs.Record.{Record, record_of, size_at, records_bytes, deleted_state}
use Rattle.bank.specs.WellFormed.{FineRecords}
use Rattle.records.specs.Match.{matches}
use Rattle.records.specs.View.{is_record}

-- w holds the records rs from a place up to another
pub record Holds (w : List ℕ) (from to : ℕ) (rs : List Record) : Type 0 where
  pub fine : FineRecords rs
  pub low : from ≤ to
  pub high : to ≤ length w
  pub is : take (to - from) (drop from w) ≡ records_bytes rs

-- where the record at a place ends, if one stands there
unfoldable pub next_after : ℕ → List ℕ → Option ℕ
next_after at s = cond (is_record (drop at s)) (Some (at + size_at (drop at s))) None

-- s with the record that begins it deleted if it matches
unfoldable pub deleted_at : List ℕ → VarType → List ℕ → List ℕ
deleted_at key typ s = cond (matches key typ (record_of s)) (set s 2 (deleted_state (get_or s 2 0))) s
