-- The blanks and the numbers of a source.
use Rattle.std.specs.Prelude.{ℕ, ◌≡◌, Bool, true, not, ◌==◌, ◌&&◌, ◌||◌, List, length, nat_lt, slice_index}
use Rattle.std.specs.List.{list_all}
use Rattle.std.specs.Char.{is_ascii_digit}
use Rattle.std.specs.Str.Parse.{digits_value}

-- a space, a tab or a carriage return
abbrev pub is_blank : ℕ → Bool
is_blank b = (b == 32) || (b == 9) || (b == 13)

abbrev pub AreBlanks : List ℕ → Type 0
AreBlanks bytes = list_all is_blank bytes ≡ true

-- `0`, or a digit from 1 to 9 followed by digits. So a number is spelled in a source, and on the command line.
abbrev pub is_numeral : List ℕ → Bool
is_numeral w = (nat_lt 0 (length w) && list_all is_ascii_digit w) && (length w == 1 || not (slice_index w 0 == 48))

-- the word is the number's spelling; a number may have any number of digits
pub record IsNumber (word : List ℕ) (n : ℕ) : Type 0 where
  pub spelling : is_numeral word ≡ true
  pub value : digits_value 10 word ≡ n
