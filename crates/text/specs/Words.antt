-- Words that more than one program prints.
use Rattle.std.specs.Prelude.{ℕ, List, [], ◌∷◌}

abbrev pub short_word : List ℕ
short_word = 0x73 ∷ 0x68 ∷ 0x6F ∷ 0x72 ∷ 0x74 ∷ []

abbrev pub empty_word : List ℕ
empty_word = 0x65 ∷ 0x6D ∷ 0x70 ∷ 0x74 ∷ 0x79 ∷ []
