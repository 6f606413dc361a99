-- What may follow a command word, and which words are taken.
use Rattle.std.specs.Prelude.{ℕ, ◌+◌, ◌==◌, ◌&&◌, ◌||◌, Bool, true, false, not, nat_le, nat_lt, length, filter, slice_index, take, drop, codes, List, [], ◌∷◌, if◌then◌else◌}
use Rattle.std.specs.List.{list_all}
use Rattle.std.specs.Str.{bytes_eq}
use Rattle.dk_plan.specs.declared.TheConstants.{MAX_ASKS}

pub record Synopsis : Type 0 where
  -- the command word
  pub word : List ℕ
  -- the names of its arguments in order, all required
  pub names : List (List ℕ)
  -- whether the last of them stands for 1 to 32 words
  pub repeats : Bool
  -- whether it has the flag --report
  pub reports : Bool

-- the word begins with '-'
abbrev pub is_flag : List ℕ → Bool
is_flag w = slice_index w 0 == 45

abbrev pub positionals : List (List ℕ) → List (List ℕ)
positionals ws = filter (λ w. not (is_flag w)) ws

abbrev pub flags : List (List ℕ) → List (List ℕ)
flags ws = filter is_flag ws

abbrev pub is_empty : List ℕ → Bool
is_empty [] = true
is_empty (b ∷ bs) = false

-- a word that begins with '-' is the flag
abbrev pub is_allowed : Synopsis → List ℕ → Bool
is_allowed s w = not (is_flag w) || (s.reports && bytes_eq w (codes "--report"))

-- so many words stand for the arguments
abbrev pub fits : Synopsis → ℕ → Bool
fits s n = if s.repeats then (nat_le (length s.names) n && nat_lt n (length s.names + MAX_ASKS))
    else (n == length s.names)

-- No word is empty; each word that begins with '-' is the flag, which stands at most once; the others are the arguments.
abbrev pub are_taken : Synopsis → List (List ℕ) → Bool
are_taken s ws =
    (list_all (λ w. not (is_empty w)) ws && list_all (is_allowed s) ws)
    && (fits s (length (positionals ws)) && nat_le (length (flags ws)) 1)

-- the words that the argument at place i stands for
abbrev pub words_at : Synopsis → List (List ℕ) → ℕ → List (List ℕ)
words_at s ps i = if s.repeats && (i + 1 == length s.names) then drop i ps else take 1 (drop i ps)

-- the words that the first n arguments stand for
abbrev pub words_up_to : Synopsis → List (List ℕ) → ℕ → List (List ℕ)
words_up_to s ps n = if s.repeats && (n == length s.names) then ps else take n ps

abbrev pub are_apart : List (List ℕ) → Bool
are_apart [] = true
are_apart (name ∷ more) = list_all (λ other. not (bytes_eq name other)) more && are_apart more

-- there are arguments, but not many, and their names and that of the flag differ
abbrev pub is_synopsis : Synopsis → Bool
is_synopsis s = (nat_lt 0 (length s.names) && nat_lt (length s.names) 100) && are_apart (codes "report" ∷ s.names)
