-- What a line of a profile says.
use Rattle.std.specs.Prelude.{ℕ, ◌+◌, ◌==◌, ◌&&◌, nat_le, min, if◌then◌else◌, List, [], ◌∷◌, length, position, codes, Option, Some, None, Result, Ok, Err}
use Rattle.std.specs.Str.{bytes_eq}
use Rattle.std.specs.Str.Parse.{digits_value}
use Rattle.dk_config.specs.Configuration.{Configuration}
use Rattle.dk_config.specs.Certification.{is_user}
use Rattle.dk_config.specs.Mutex.{Mutex}
use Rattle.dk_asm.specs.Words.{is_numeral}
use Rattle.dk_asm.specs.Source.{lines_of}
use Rattle.dk_profile.specs.declared.TheConstants.{MAX_WORK, MAX_VALUE}
use Rattle.dk_profile.specs.declared.steps.Step.{Step}
use Rattle.dk_profile.specs.declared.steps.Why.{Why}
use Rattle.dk_profile.specs.declared.steps.Reading.{Reading}
use Rattle.dk_profile.specs.declared.steps.Reading.TheVariants as reading
use Rattle.dk_profile.specs.declared.steps.Placed.{Placed}
use Rattle.dk_profile.specs.Words.{LineWords, line_words}

-- the number that a word spells
abbrev pub number_of : List ℕ → Option ℕ
number_of word = if is_numeral word then Some (digits_value 10 word) else None

-- the same, with 1,000,001 for all numbers from there on
abbrev pub capped_number : List ℕ → Option ℕ
capped_number word = if is_numeral word then Some (min (digits_value 10 word) 1000001) else None

-- a number from low to high
abbrev pub in_range : ℕ → ℕ → Option ℕ → Result ℕ Why
in_range low high None = Err Why.NoNumber
in_range low high (Some n) = if nat_le low n && nat_le n high then Ok n else Err (Why.Range low high)

abbrev pub amount : ℕ → ℕ → List ℕ → Result ℕ Why
amount low high word = in_range low high (number_of word)

-- the mutex of this name
abbrev pub mutex_named : Configuration → List ℕ → Option ℕ
mutex_named c name = position (λ (row : Mutex). bytes_eq row.name name) c.mutexes

-- a mutex that the process uses
abbrev pub of_user : Configuration → ℕ → Option ℕ → Result ℕ Why
of_user c p None = Err Why.NoMutex
of_user c p (Some m) = if is_user c m p then Ok m else Err Why.NoUser

abbrev pub used_mutex : Configuration → ℕ → List ℕ → Result ℕ Why
used_mutex c p name = of_user c p (mutex_named c name)

-- the step of a number, where there is one
abbrev pub said : (ℕ → Step) → Result ℕ Why → Reading
said step (Ok n) = reading.Does (step n)
said step (Err why) = reading.Wrong why

-- nothing may stand behind it
abbrev pub alone : Reading → List ℕ → Reading
alone r word = if length word == 0 then r else reading.Wrong Why.More

-- what a line with this word in front says of the word behind it
abbrev pub step_on : Configuration → ℕ → List ℕ → List ℕ → Reading
step_on c p first word =
    if bytes_eq first (codes "work") then said Step.Work (amount 1 MAX_WORK word) else (
    if bytes_eq first (codes "lock") then said Step.Lock (used_mutex c p word) else (
    if bytes_eq first (codes "unlock") then said Step.Unlock (used_mutex c p word) else (
    if bytes_eq first (codes "slack") then said Step.Slack (amount 1 MAX_VALUE word) else (
    if bytes_eq first (codes "put") then said Step.Put (amount 0 MAX_VALUE word) else (
    if bytes_eq first (codes "wait") then alone (reading.Does Step.Wait) word else (
    if bytes_eq first (codes "job") then alone reading.Job word else reading.Wrong Why.NoStep))))))

abbrev pub reading_of : Configuration → ℕ → LineWords → Reading
reading_of c p w =
    if length w.first == 0 then reading.Nothing else (
    if length w.more == 0 then step_on c p w.first w.second else reading.Wrong Why.More)

-- what a line says to process p of the configuration
abbrev pub read_line : Configuration → ℕ → List ℕ → Reading
read_line c p line = reading_of c p (line_words line)

-- what the lines say, from this number on
abbrev pub placed : Configuration → ℕ → ℕ → List (List ℕ) → List Placed
placed c p n [] = []
placed c p n (line ∷ lines) = record { line = n; reading = read_line c p line } ∷ placed c p (n + 1) lines

-- what the lines of a text say
abbrev pub readings_of : Configuration → ℕ → List ℕ → List Placed
readings_of c p text = placed c p 1 (lines_of text)
