-- The line that `bankcause` prints (request N2).
use Rattle.std.specs.Prelude.{ℕ, List, [], ◌∷◌}
use Rattle.cause.specs.declared.Cause.{Cause}
use Rattle.cause.specs.declared.Cause.TheVariants.{Short, Empty, Signature, Version, Size, Name, Crc, Blank, Start, Length, End}
use Rattle.cause.specs.Cause.{spot_of}
use Rattle.text.specs.Text.{decimal, line}
use Rattle.text.specs.Words.{short_word, empty_word}

abbrev pub signature_word : List ℕ
signature_word = 0x73 ∷ 0x69 ∷ 0x67 ∷ 0x6E ∷ 0x61 ∷ 0x74 ∷ 0x75 ∷ 0x72 ∷ 0x65 ∷ []

abbrev pub version_word : List ℕ
version_word = 0x76 ∷ 0x65 ∷ 0x72 ∷ 0x73 ∷ 0x69 ∷ 0x6F ∷ 0x6E ∷ []

abbrev pub size_word : List ℕ
size_word = 0x73 ∷ 0x69 ∷ 0x7A ∷ 0x65 ∷ []

abbrev pub name_word : List ℕ
name_word = 0x6E ∷ 0x61 ∷ 0x6D ∷ 0x65 ∷ []

abbrev pub crc_word : List ℕ
crc_word = 0x63 ∷ 0x72 ∷ 0x63 ∷ []

abbrev pub blank_word : List ℕ
blank_word = 0x62 ∷ 0x6C ∷ 0x61 ∷ 0x6E ∷ 0x6B ∷ []

abbrev pub start_word : List ℕ
start_word = 0x73 ∷ 0x74 ∷ 0x61 ∷ 0x72 ∷ 0x74 ∷ []

abbrev pub length_word : List ℕ
length_word = 0x6C ∷ 0x65 ∷ 0x6E ∷ 0x67 ∷ 0x74 ∷ 0x68 ∷ []

abbrev pub end_word : List ℕ
end_word = 0x65 ∷ 0x6E ∷ 0x64 ∷ []

-- a word; a fault's place in the bank; and for a record's fault the index
unfoldable pub cause_line : Cause → List ℕ
cause_line Short = line (short_word ∷ [])
cause_line Empty = line (empty_word ∷ [])
cause_line Signature = line (signature_word ∷ decimal (spot_of Signature).place ∷ [])
cause_line Version = line (version_word ∷ decimal (spot_of Version).place ∷ [])
cause_line Size = line (size_word ∷ decimal (spot_of Size).place ∷ [])
cause_line (Name p) = line (name_word ∷ decimal p.place ∷ decimal p.index ∷ [])
cause_line (Crc p) = line (crc_word ∷ decimal p.place ∷ decimal p.index ∷ [])
cause_line Blank = line (blank_word ∷ [])
cause_line Start = line (start_word ∷ [])
cause_line Length = line (length_word ∷ [])
cause_line End = line (end_word ∷ [])

-- bytes enough for any line
unfoldable pub line_size : ℕ
line_size = 32
