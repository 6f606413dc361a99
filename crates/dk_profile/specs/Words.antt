-- The words of a line.
use Rattle.std.specs.Prelude.{ℕ, Bool, not, ◌==◌, List, drop}
use Rattle.std.specs.List.{position_or_len, before_first}
use Rattle.dk_asm.specs.Words.{is_blank}

abbrev pub is_solid : ℕ → Bool
is_solid b = not (is_blank b)

-- without the blanks in front
abbrev pub skipped : List ℕ → List ℕ
skipped bytes = drop (position_or_len is_solid bytes) bytes

-- from the first blank on
abbrev pub behind_word : List ℕ → List ℕ
behind_word bytes = drop (position_or_len is_blank bytes) bytes

-- two words, and what stands behind them
pub record LineWords : Type 0 where
  pub first : List ℕ
  pub second : List ℕ
  pub more : List ℕ

abbrev pub words_from : List ℕ → List ℕ → LineWords
words_from one rest = record {
  first = before_first is_blank one;
  second = before_first is_blank rest;
  more = skipped (behind_word rest);
}

-- the words of a line before its comment, from the first on that isn't empty
abbrev pub line_words : List ℕ → LineWords
line_words line =
    let one = skipped (before_first (λ b. b == 35) line) in words_from one (skipped (behind_word one))
