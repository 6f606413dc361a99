-- What is made after some iterations of the loops.
use Rattle.std.proofs.Common.{◌≡◌, ◌∙◌, ◌<◌, ◌≤◌, ◌+◌, ◌*◌, ◌/◌, ◌%◌, ◌++◌, add-one, add-zero, add_assoc, ℕ, zero, suc, List, [], ◌∷◌, map, arith, refl, ap, sym}
use Rattle.std.specs.Prelude.{flat_map, slice_index_or, codes}
use Rattle.dk_config.specs.declared.rows.Costs.{Costs}
use Rattle.dk_config.specs.declared.rows.LevelRow.{LevelRow}
use Rattle.dk_config.specs.declared.rows.ProcessRow.{ProcessRow}
use Rattle.dk_config.specs.Mutex.{Mutex}
use Rattle.dk_config.specs.Sums.{below}
use Rattle.dk_gen.specs.declared.templates.Template.TheVariants.{Spin}
use Rattle.dk_gen.specs.Draws.{state, draw}
use Rattle.dk_gen.specs.Templates.{random_word, random_program, templates, template_at, draws_in, program_of}
use Rattle.dk_gen.specs.Generated.{generated, place_of, process_at, program_at, process_count, period_at, levels_of, costs_of, budget_of, hold_of, mutex_of, processes_of, process_with, mutex_with}
use Rattle.dk_gen.proofs.Stream.{state_none, state_later, draw_later}
use Rattle.dk_gen.proofs.Lists.{rows_more}
use Rattle.dk_gen.proofs.Sizes.{period_least}
use Rattle.dk_gen.proofs.Programs.{word_later, words_more, program_later}

-- so many instructions of drawn bytes
pub record Words (number count draws : ℕ) (bytes : List ℕ) : Type 0 where
  pub place : draws ≡ state number (4 * count)
  pub code : bytes ≡ flat_map (λ i. random_word number (0 + 4 * i)) (below count)

pub no_words : (number : ℕ) (bytes : List ℕ) → bytes ≡ [] → Words number 0 number bytes
no_words number bytes none = record { place = sym (state_none number); code = none }

pub word_more : (number count draws next : ℕ) (bytes word more : List ℕ) → Words number count draws bytes → word ≡ random_word draws 0 → next ≡ state draws 4
    → more ≡ bytes ++ word → Words number (count + 1) next more
word_more number count draws next bytes word more words is moves adds =
    let P : ℕ → List ℕ = λ i. random_word number (0 + 4 * i) in
    let here : word ≡ P (0 + count) = is ∙ ap (λ d. random_word d 0) words.place ∙ word_later number (4 * count) 0 (0 + 4 * (0 + count)) (omega arith) in
    let on : 4 * count + 4 ≡ 4 * (count + 1) = omega arith in
    record {
      place = moves ∙ ap (λ d. state d 4) words.place ∙ state_later number (4 * count) 4 ∙ ap (state number) on;
      code = adds ∙ ap (λ b. b ++ word) words.code ∙ ap (λ w. flat_map P (below count) ++ w) here ∙ sym (words_more P 0 count)
          ∙ ap (λ n. flat_map P (below n)) (sym (add-one count));
    }

pub all_words : (number count draws : ℕ) (bytes : List ℕ) → Words number count draws bytes → count ≡ 32 → (bytes ≡ random_program number 0) × (draws ≡ state number (4 * 32))
unfolding random_program
all_words number count draws bytes words all =
    (words.code ∙ ap (λ n. flat_map (λ i. random_word number (0 + 4 * i)) (below n)) all, words.place ∙ ap (λ n. state number (4 * n)) all)

-- so many processes with their programs
pub record Made (number count draws : ℕ) (rows : List ProcessRow) (codes : List (List ℕ)) : Type 0 where
  pub place : draws ≡ state number (place_of number count)
  pub processes : rows ≡ map (process_at number) (below count)
  pub programs : codes ≡ map (program_at number) (below count)

pub made_none : (number draws : ℕ) (rows : List ProcessRow) (codes : List (List ℕ)) → draws ≡ state number 9 → rows ≡ [] → codes ≡ [] → Made number 0 draws rows codes
unfolding place_of
made_none number draws rows codes at no_rows no_codes = record { place = at; processes = no_rows; programs = no_codes }

-- what is drawn where the stream stands at a place
module _ (number draws place : ℕ) (at : draws ≡ state number place) where
  pub drawn_at : (k : ℕ) → draw draws 0 k ≡ draw number place k
  drawn_at k = ap (λ d. draw d 0 k) at ∙ draw_later number place 0 k ∙ ap (λ p. draw number p k) (add-zero place)

  pub place_at : (n : ℕ) → state draws n ≡ state number (place + n)
  place_at n = ap (λ d. state d n) at ∙ state_later number place n

  template_is : template_at draws 0 ≡ template_at number place
  template_is = ap (λ n. slice_index_or templates n Spin) (drawn_at 5)

  pub program_is : program_of (template_at draws 0) draws 1 ≡ program_of (template_at number place) number (place + 1)
  program_is = ap (λ t. program_of t draws 1) template_is ∙ ap (λ d. program_of (template_at number place) d 1) at ∙ program_later (template_at number place) number place 1

  pub after_program : state draws (1 + draws_in (template_at draws 0)) ≡ state number (place + (1 + draws_in (template_at number place)))
  after_program = ap (λ t. state draws (1 + draws_in t)) template_is ∙ place_at (1 + draws_in (template_at number place))

-- one process more
module _ (number i draws : ℕ) (rows : List ProcessRow) (codes : List (List ℕ)) (made : Made number i draws rows codes) where
  pub made_more : (switch period count budget next last : ℕ) (row : ProcessRow) (code : List ℕ) (more_rows : List ProcessRow) (more_codes : List (List ℕ))
      → switch ≡ draw number 6 3 → period ≡ period_at number (i % 3) → count ≡ process_count number
      → budget ≡ 2 * switch + 1 + draw draws 0 (period / (2 * count)) → next ≡ state draws 1
      → row ≡ process_with i budget → more_rows ≡ rows ++ row ∷ []
      → code ≡ program_of (template_at next 0) next 1 → last ≡ state next (1 + draws_in (template_at next 0)) → more_codes ≡ codes ++ code ∷ []
      → Made number (i + 1) last more_rows more_codes
  unfolding place_of
  made_more switch period count budget next last row code more_rows more_codes is_switch is_period is_count is_budget moves is_row adds_row is_code moves_on adds_code =
      let at : next ≡ state number (place_of number i + 1) = moves ∙ place_at number draws (place_of number i) made.place 1 in
      let own : budget ≡ budget_of number i =
      is_budget ∙ ap (λ w. 2 * w + 1 + draw draws 0 (period / (2 * count))) is_switch
      ∙ ap (λ p. 2 * draw number 6 3 + 1 + draw draws 0 (p / (2 * count))) is_period
      ∙ ap (λ n. 2 * draw number 6 3 + 1 + draw draws 0 (period_at number (i % 3) / (2 * n))) is_count
      ∙ ap (λ d. 2 * draw number 6 3 + 1 + d) (drawn_at number draws (place_of number i) made.place (period_at number (i % 3) / (2 * process_count number))) in
      let row_is : row ≡ process_at number i = is_row ∙ ap (process_with i) own in
      let two : place_of number i + 1 + 1 ≡ place_of number i + 2 = add_assoc (place_of number i) 1 1 in
      let code_is : code ≡ program_at number i =
      is_code ∙ program_is number next (place_of number i + 1) at ∙ ap (program_of (template_at number (place_of number i + 1)) number) two in
      let on = after number i (draws_in (template_at number (place_of number i + 1))) in
      record {
        place = moves_on ∙ after_program number next (place_of number i + 1) at ∙ ap (state number) on ∙ ap (λ n. state number (place_of number n)) (sym (add-one i));
        processes = adds_row ∙ ap (λ xs. xs ++ row ∷ []) made.processes ∙ ap (λ x. map (process_at number) (below i) ++ x ∷ []) row_is ∙ sym (rows_more (process_at number) i);
        programs = adds_code ∙ ap (λ xs. xs ++ code ∷ []) made.programs ∙ ap (λ x. map (program_at number) (below i) ++ x ∷ []) code_is ∙ sym (rows_more (program_at number) i);
      }
    where
      after : (number i n : ℕ) → place_of number i + 1 + (1 + n) ≡ place_of number i + 2 + n
      after number i n = omega arith

-- a level's period among the rows
pub period_is : (number j : ℕ) (levels : List LevelRow) (d : LevelRow) → levels ≡ levels_of number → j < 3 → (slice_index_or levels j d).period ≡ period_at number j
period_is number j levels d is inside = ap (λ rows. (slice_index_or rows j d).period) is ∙ of number j d inside
  where
    of : (number j : ℕ) (d : LevelRow) → j < 3 → (slice_index_or (levels_of number) j d).period ≡ period_at number j
    of number zero d inside = refl
    of number (suc zero) d inside = refl
    of number (suc (suc zero)) d inside = refl
    of number (suc (suc (suc j))) d inside = absurd (omega arith)

pub long_period : (number j : ℕ) (levels : List LevelRow) (d : LevelRow) → levels ≡ levels_of number → j < 3 → 100 ≤ (slice_index_or levels j d).period
long_period number j levels d is inside =
    let same = period_is number j levels d is inside in
    let least = period_least number j in
    omega (arith, same, least)

-- all processes, and the mutex after them
pub made_all : (number count draws period : ℕ) (levels : List LevelRow) (costs : Costs) (rows : List ProcessRow) (codes : List (List ℕ)) (mutex : Mutex) (mutexes : List Mutex)
    → Made number count draws rows codes → count ≡ process_count number → levels ≡ levels_of number → costs ≡ costs_of number → period ≡ period_at number 0
    → mutex ≡ mutex_with (1 + draw draws 0 (period / 20)) rows → mutexes ≡ mutex ∷ []
    → record { config = record { version = 1; costs = costs; levels = levels; processes = rows; mutexes = mutexes }; programs = codes } ≡ generated number
unfolding generated
made_all number count draws period levels costs rows codes mutex mutexes made all is_levels is_costs is_period is_mutex one =
    let at = drawn_at number draws (place_of number count) made.place (period_at number 0 / 20) in
    let hold : 1 + draw draws 0 (period / 20) ≡ hold_of number =
    ap (λ p. 1 + draw draws 0 (p / 20)) is_period ∙ ap (λ d. 1 + d) at ∙ ap (λ n. 1 + draw number (place_of number n) (period_at number 0 / 20)) all in
    let rows_are : rows ≡ processes_of number = made.processes ∙ ap (λ n. map (process_at number) (below n)) all in
    let codes_are : codes ≡ map (program_at number) (below (process_count number)) = made.programs ∙ ap (λ n. map (program_at number) (below n)) all in
    let mutex_is : mutex ≡ mutex_of number = is_mutex ∙ ap (λ h. mutex_with h rows) hold ∙ ap (mutex_with (hold_of number)) rows_are in
    let mutexes_are : mutexes ≡ mutex_of number ∷ [] = one ∙ ap (λ m. m ∷ []) mutex_is in
    rw (is_costs, is_levels, rows_are, mutexes_are, codes_are)
