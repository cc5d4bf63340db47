-- What records come to: the live ones in sum, by section (01, 'A commit, from the entry down') and all (02, N4), and how many there are, dead
-- ones too (02, N3). One walk adds the four up, record by record.
use Rattle.std.specs.Prelude.{ℕ, ◌+◌, Bool, cond, List, length}
use Rattle.bank.specs.Record.{Record, live, sizes, system_guid, common_guid}
use Rattle.bank.specs.Totals.{select, live_of}
use Rattle.records.specs.declared.figures.Figures.{Figures}

-- live system records in sum, and live common ones; a third GUID counts in neither section

abbrev pub system_used : List Record → ℕ
system_used rs = sizes (select (live_of system_guid) rs)

abbrev pub common_used : List Record → ℕ
common_used rs = sizes (select (live_of common_guid) rs)

-- all live records in sum
abbrev pub live_used : List Record → ℕ
live_used rs = sizes (select live rs)

-- the sums, and the number of records
unfoldable pub figures_of : List Record → Figures
figures_of rs = record { system = system_used rs; common = common_used rs; live = live_used rs; count = length rs }

-- as a walk adds them up

abbrev pub no_figures : Figures
no_figures = record { system = 0; common = 0; live = 0; count = 0 }

-- of one record of n bytes
unfoldable pub figures_by : Record → ℕ → Figures
figures_by r n =
    record { system = cond (live_of system_guid r) n 0; common = cond (live_of common_guid r) n 0; live = cond (live r) n 0; count = 1 }

unfoldable pub plus : Figures → Figures → Figures
plus f g =
    record { system = f.system + g.system; common = f.common + g.common; live = f.live + g.live; count = f.count + g.count }

-- what a check of records adds up: their figures, if they are to be counted
unfoldable pub records_figures : Bool → List Record → Figures
records_figures counting rs = cond counting (figures_of rs) no_figures
