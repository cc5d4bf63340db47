-- To be read: nothing else cites it. Demand 3's premises can be met in both readings (`met_01`, `met_N4`): one bank of size 100, in which the second
-- insert and the third make the commit move, so that its erase is requested twice; then a careful commit is refused by 12, and the next one moves.
-- And the wear bound at the figures that 01 gives (`two_banks`).
use Prim.Native.Nat.{ℕ, ◌+◌, ◌-◌, ◌*◌, ◌/◌, ◌≤◌, ◌<◌}
use mathlib.Core.Path.{◌≡◌, refl, sym, ap, ap₂, ◌∙◌, subst}
use mathlib.Core.Bool.{Bool, false}
use mathlib.Core.List.{List, [], ◌∷◌, ◌++◌}
use Rattle.std.specs.Prelude.{None, Some}
use native.Mathlib.Omega.{arith}
use native.Mathlib.Nat.{div_self}
use lib.ListN.{length, replicate, length-append, length-replicate}
use lib.Seq.{take_all}
use borrow.Author.Tests.{le-ltb, lt-leb}
use Rattle.crc32.specs.Crc32.{Bytes}
use Rattle.buffers.proofs.BelowLaws.{below_append, bytes_ff}
use Rattle.buffers.specs.Bytes.{eq_bytes}
use Rattle.tally.specs.declared.Caller.{Caller}
use Rattle.tally.specs.declared.Caller.TheVariants.{Clock, Barrel}
use Rattle.tally.specs.Tally.{is_own}
use Rattle.bank.specs.declared.header.StoreHeader.{StoreHeader}
use Rattle.bank.specs.declared.variable.VarType.TheVariants.{Common}
use Rattle.bank.specs.Number.{le32}
use Rattle.bank.specs.Header.{header_bytes}
use Rattle.bank.specs.Record.{size_of, sizes, records_bytes, live, deleted_state, type_of}
use Rattle.bank.specs.Bank.{Bank, Slot, valid, bank_size, padded, bank_bytes, bank_of, output}
use Rattle.bank.specs.Read.{read_bank}
use Rattle.bank.specs.Totals.{select, total, live_total, live_of}
use Rattle.bank.specs.WellFormed.{FineHeader}
use Rattle.bank.proofs.BankBack.{bank_back}
use Rattle.bank.proofs.PartitionLaws.{bank_size_lem}
use Rattle.bank.proofs.PaddedLaws.{length_blanks}
use Rattle.bank.proofs.OutputLaws.{length_output, bytes_output}
use Rattle.records.specs.Match.{matches, deleted}
use Rattle.book.specs.Edit.{Manner, plain, barrel, insert, remove, edited_by, grows, refused_insert, refused_edit}
use Rattle.book.specs.Book.{part_size, Book}
use Rattle.book.specs.Commit.{Way, old, careful, judge, carefully, judge_as, due, judge_bank, request}
use Rattle.book.specs.Opening.{read_slots, active_from, any_valid, banks_of, book_of, Opened, opened, opening}
use Rattle.book.specs.Call.{Call, edit, commit, Answer, committed, number, erase, by_slot, edit_as, edit_bank, move_in, commit_as, commit_bank, commit_to, step, Follows}
use Rattle.book.specs.Tallied.{committer}
use Rattle.book.proofs.StepLaws.{not_old}
use Rattle.nvram.specs.declared.state.Nvram.{Nvram}
use Rattle.nvram.specs.Contract.{begun}
use Rattle.run.specs.Run.{Opens, Event, Run, opened_book, Page, pages}
use Rattle.run.specs.Wear.{active_size, all_commits, accepted_commits, most_live, inserted_bytes, requested, requests}
use Rattle.run.specs.Demand.{Demand3, Careful}
use Rattle.run.proofs.RunOf.{ByteCalls, No12, AllCareful, Kept, events_of, run_of, follows_of, careful_no12, careful_of}
use Rattle.run.proofs.Start.{starts}
use Rattle.run.proofs.Along.{Along, opened_along}

-- the image

abbrev header : StoreHeader
header = record { size = 100; generation = 5; state = 0; flags = 0; system_size = 100; common_size = 100 }

abbrev bank : Bank
bank = bank_of header [] 100

header_fine : FineHeader header
header_fine =
    record {
      size_low = omega arith;
      size_high = omega arith;
      generation_fits = omega arith;
      state_fits = omega arith;
      flags_fit = omega arith;
      system_fits = omega arith;
      common_fits = omega arith;
    }

unfoldable image : List ℕ
image = output bank ++ replicate (bank_size - 100) 255

abbrev book : Book
book = record { n = 1; active = 0; slots = valid bank ∷ [] }

image_bytes : Bytes image
unfolding image
image_bytes = below_append (output bank) (replicate (bank_size - 100) 255) (bytes_output bank header_fine tt) (bytes_ff (bank_size - 100))

image_length : length image ≡ bank_size
unfolding image total sizes
image_length =
    length-append (output bank) (replicate (bank_size - 100) 255)
    ∙ omega (arith, bank_size_lem, length_output bank tt (omega arith), length_blanks (bank_size - 100))

image_reads : read_bank image ≡ valid bank
unfolding image output padded bank_bytes records_bytes sizes header_bytes le32 bank_size
image_reads = bank_back header [] (replicate (bank_size - 100) 255) header_fine tt (omega arith)

one_bank : banks_of image ≡ 1
one_bank = ap (λ (k : ℕ). k / bank_size) image_length ∙ div_self (omega (arith, bank_size_lem))

slots_read : read_slots (banks_of image) image ≡ valid bank ∷ []
unfolding read_slots
slots_read =
    ap (λ (k : ℕ). read_slots k image) one_bank
    ∙ ap (λ (l : List ℕ). read_bank l ∷ []) (take_all bank_size image (omega (arith, image_length)))
    ∙ ap (λ (s : Slot). s ∷ []) image_reads

book_opened : opened_book image ≡ book
unfolding active_from
book_opened = ap₂ book_of slots_read one_bank

abbrev work : List ℕ
work = replicate part_size 0

opens : opening image (length work) ≡ opened (opened_book image)
unfolding opening any_valid
opens =
    let l = image_length in
    let enough : bank_size ≤ length image = omega arith in
    let few : length image < 17 * bank_size = omega (arith, bank_size_lem) in
    let room : banks_of image * part_size ≤ length work = omega (arith, ap (λ (k : ℕ). k * part_size) one_bank, length-replicate {A = ℕ} part_size 0) in
    simp (le-ltb _ _ enough, lt-leb _ _ few, le-ltb _ _ room, ap any_valid slots_read)

-- the calls

-- keys of one byte and of two
abbrev put : Manner → ℕ → Call
put m long = edit (insert m (replicate long 255) (replicate 10 255) Common)

-- the second insert and the third make the commit move, with 72 bytes live; the fourth brings them to 121, over the size until it is removed. The
-- last two are the barrels' (02, N5), and so are the second commit and the third (02, N7)
abbrev calls : Way → List Call
calls way =
    put plain 1 ∷ put plain 1 ∷ commit way Clock 65536 ∷ put barrel 1 ∷ commit way Barrel 65536 ∷ put barrel 2 ∷ commit careful Barrel 65536
    ∷ edit (remove (replicate 2 255) Common)
    ∷ commit careful Clock 65536
    ∷ []

calls_bytes : (way : Way) → ByteCalls (calls way)
calls_bytes way =
    let y : (n : ℕ) → Bytes (replicate n 255) × Bytes (replicate 10 255) = λ n. (bytes_ff n, bytes_ff 10) in
    (y 1, (y 1, (tt, (y 1, (tt, (y 2, (tt, (bytes_ff 2, (tt, tt)))))))))

all_careful : AllCareful (calls careful)
all_careful = (refl, (refl, (refl, (refl, (refl, (refl, (refl, (refl, (refl, tt)))))))))

no_12 : (way : Way) → No12 book (calls way)
unfolding No12 step by_slot edit_bank edit_as refused_insert refused_edit edited_by grows commit_to commit_bank commit_as judge_bank judge_as judge carefully due move_in total live_total select live_of live sizes size_of matches deleted deleted_state type_of eq_bytes request bank_size part_size
no_12 old = ((λ o e. omega arith), ((λ o e. omega arith), ((λ o e. omega arith), ((λ o e. omega arith), ((λ o e. omega arith), ((λ o e. omega arith), (not_old (commit careful Barrel 65536) _ refl, ((λ o e. omega arith), ((λ o e. omega arith), tt)))))))))
no_12 careful = careful_no12 book (calls careful) all_careful

-- what they ask for

-- two erase requests for one bank with room for the wear bound, and an accepted commit after a request
pub record Twice (counts : ℕ → Bool) (b : Book) (es : List Event) : Type 0 where
  pub earlier : List Page
  pub first : Page
  pub between : List Page
  pub second : Page
  pub later : List Page
  pub parts : pages b es ≡ earlier ++ (first ∷ (between ++ (second ∷ later)))
  pub commits : first.event.answer ≡ committed 0 (Some 0) 0 100
  pub again : erase second.event.answer ≡ Some 0
  pub within : most_live counts (first ∷ between) ≤ active_size b
  -- what comes right behind the first is a barrel insert, and nothing else is inserted between them
  pub next : Page
  pub others : List Page
  pub between_is : between ≡ next ∷ others
  pub key : List ℕ
  pub value : List ℕ
  pub barrels : next.event.call ≡ edit (insert barrel key value Common)
  pub inserted : inserted_bytes between ≡ grows (insert barrel key value Common)
  pub requested_once : 0 < requests (earlier ++ (first ∷ []))
  -- one request is the clock's, the other the barrel's
  pub one : Caller
  pub other : Caller
  pub first_by : committer first.event.call ≡ Some one
  pub second_by : committer second.event.call ≡ Some other
  pub apart : is_own one (Some other) ≡ false

-- and between them a careful commit that is refused by 12; with it L would be over S
pub record Despite12 (b : Book) (es : List Event) : Type 0 where
  pub twice : Twice accepted_commits b es
  pub before : List Page
  pub refused : Page
  pub behind : List Page
  pub parts : twice.between ≡ before ++ (refused ∷ behind)
  pub answer : refused.event.answer ≡ committed 12 None 0 0
  pub over : active_size b < most_live all_commits (twice.first ∷ twice.between)

module _ (f : List ℕ) (s : Nvram) (w : List ℕ) where
  twice : Along book f book 0 (pages book (events_of s w (calls old))) → Twice all_commits book (events_of s w (calls old))
  unfolding events_of pages most_live inserted_bytes requests step by_slot edit_bank edit_as refused_insert refused_edit edited_by grows commit_to commit_bank commit_as judge_bank judge_as judge carefully due move_in total live_total select live_of live sizes size_of matches deleted deleted_state type_of eq_bytes request bank_size part_size
  twice a =
      record {
        earlier = _ ∷ _ ∷ [];
        first = _;
        between = _ ∷ [];
        second = _;
        later = _ ∷ _ ∷ _ ∷ _ ∷ [];
        parts = refl;
        commits = a.2.2.1.answer;
        again = ap erase a.2.2.2.2.1.answer;
        within = omega arith;
        next = _;
        others = [];
        between_is = refl;
        key = replicate 1 255;
        value = replicate 10 255;
        barrels = refl;
        inserted = rw a.2.2.2.1.answer refl;
        requested_once = omega (arith, ap (λ (x : Answer). requested (erase x)) a.2.2.1.answer);
        one = Clock;
        other = Barrel;
        first_by = refl;
        second_by = refl;
        apart = refl;
      }

  despite_12 : Along book f book 0 (pages book (events_of s w (calls careful))) → Despite12 book (events_of s w (calls careful))
  unfolding events_of pages most_live inserted_bytes requests step by_slot edit_bank edit_as refused_insert refused_edit edited_by grows commit_to commit_bank commit_as judge_bank judge_as judge carefully due move_in total live_total select live_of live sizes size_of matches deleted deleted_state type_of eq_bytes request bank_size part_size
  despite_12 a =
      let b = a.2.2.2.2 in
      record {
        twice =
            record {
              earlier = _ ∷ _ ∷ _ ∷ _ ∷ [];
              first = _;
              between = _ ∷ _ ∷ _ ∷ [];
              second = _;
              later = [];
              parts = refl;
              commits = b.1.answer;
              again = ap erase b.2.2.2.2.1.answer;
              within = rw (b.1.answer, b.2.1.answer, b.2.2.1.answer, b.2.2.2.1.answer) (omega arith);
              next = _;
              others = _ ∷ _ ∷ [];
              between_is = refl;
              key = replicate 2 255;
              value = replicate 10 255;
              barrels = refl;
              inserted = rw (b.2.1.answer, b.2.2.2.1.answer) refl;
              requested_once = omega (arith, ap (λ (x : Answer). requested (erase x)) b.1.answer);
              one = Barrel;
              other = Clock;
              first_by = refl;
              second_by = refl;
              apart = refl;
            };
        before = _ ∷ [];
        refused = _;
        behind = _ ∷ [];
        parts = refl;
        answer = b.2.2.1.answer;
        over = omega arith;
      }

-- the premises of a claim, of `wear` and of `reopening`, together
pub record Met (Keeps : Call → ℕ → Type 0) (Asks : Book → List Event → Type 0) : Type 0 where
  pub image : List ℕ
  pub work : List ℕ
  pub state : Nvram
  pub left : List ℕ
  pub events : List Event
  pub opens : Opens image work state left
  pub runs : Run state left events
  pub keeps : Kept Keeps (pages (opened_book image) events)
  pub asks : Asks (opened_book image) events

abbrev s : Nvram
s = (begun (opening image (length work)) work).state

abbrev w : List ℕ
w = (begun (opening image (length work)) work).work

opened_image : Opens image work s w
unfolding begun
opened_image = record { bytes = image_bytes; accepted = ap (λ (x : Opened). (begun x work).number) opens; state = refl; left = refl }

module _ (way : Way) where
  abbrev es : List Event
  es = events_of s w (calls way)

  follows : Kept Follows (pages (opened_book image) es)
  follows =
      let q = starts image work s w opened_image in
      follows_of (opened_book image) s w (calls way) q.fine q.viewed (calls_bytes way)
      (subst (λ (b : Book). No12 b (calls way)) (sym book_opened) (no_12 way))

  met : (Keeps : Call → ℕ → Type 0) (Asks : Book → List Event → Type 0) → Kept Keeps (pages (opened_book image) es)
      → (Along book image book 0 (pages book es) → Asks book es)
      → Met Keeps Asks
  met Keeps Asks h asks =
      let r = run_of s w (calls way) (calls_bytes way) in
      record {
        image = image;
        work = work;
        state = s;
        left = w;
        events = es;
        opens = opened_image;
        runs = r;
        keeps = h;
        asks =
            subst (λ (b : Book). Along b image b 0 (pages b es) → Asks b es) (sym book_opened) asks
            (opened_along (λ f p. Follows p.event.call (number p.event.answer)) (λ f p x. x) image work s w es opened_image r follows);
      }

-- 01's reading, in a run with both commits
pub met_01 : Met Follows (Twice all_commits)
met_01 = met old Follows (Twice all_commits) (follows old) (twice image s w)

-- 02's (N4), in a run with careful ones alone
pub met_N4 : Met Careful Despite12
met_N4 = met careful Careful Despite12 (careful_of _ _ _ (calls careful) all_careful) (despite_12 image s w)

-- n 2, S 65,536, L at most 8,192: at least 114,690 bytes

figures : (n S L bytes : ℕ) → n ≡ 2 → S ≡ 65536 → L ≤ 8192 → (L ≤ S → n * (S - L + 1) ≤ bytes) → 114690 ≤ bytes
figures n S L bytes p q l h =
    let x : 2 * (S - L + 1) ≤ bytes = rw p at (h (omega arith)) in
    omega arith

pub two_banks : (image : List ℕ) (counts : ℕ → Bool) (ps : List Page) → Demand3 image counts ps → (opened_book image).n ≡ 2 → active_size (opened_book image) ≡ 65536
    → (earlier : List Page) (first : Page) (between : List Page) (second : Page) (later : List Page) (offset : ℕ)
    → ps ≡ earlier ++ (first ∷ (between ++ (second ∷ later)))
    → erase first.event.answer ≡ Some offset
    → erase second.event.answer ≡ Some offset
    → most_live counts (first ∷ between) ≤ 8192
    → 114690 ≤ inserted_bytes between
two_banks image counts ps d n S earlier first between second later offset h x y l =
    figures (opened_book image).n (active_size (opened_book image)) (most_live counts (first ∷ between)) (inserted_bytes between) n S l
    (d.wear earlier first between second later offset h x y)
