-- The programs of the five templates.
use Rattle.std.specs.Prelude.{ℕ, ◌+◌, ◌*◌, List, [], ◌∷◌, flat_map, slice_index_or}
use Rattle.dk_config.specs.Sums.{below}
use Rattle.dk_isa.specs.declared.Instr.{Instr}
use Rattle.dk_isa.specs.declared.Instr.TheVariants.{Li, Jmp, Trap}
use Rattle.dk_isa.specs.Table.{bytes_of}
use Rattle.dk_gen.specs.declared.templates.Template.{Template}
use Rattle.dk_gen.specs.declared.templates.Template.TheVariants.{Spin, Wait, Slack, Random, Parent}
use Rattle.dk_gen.specs.Draws.{draw}

-- the templates in the order of their numbers
abbrev pub templates : List Template
templates = Spin ∷ Wait ∷ Slack ∷ Random ∷ Parent ∷ []

-- the template that is drawn at a place
abbrev pub template_at : ℕ → ℕ → Template
template_at number place = slice_index_or templates (draw number place 5) Spin

-- how many draws the program of a template takes
abbrev pub draws_in : Template → ℕ
draws_in Spin = 0
draws_in Wait = 0
draws_in Slack = 1
draws_in Random = 4 * 32
draws_in Parent = 1

abbrev pub code_of : List Instr → List ℕ
code_of instrs = flat_map bytes_of instrs

-- the four bytes that are drawn from a place on: a code, and three that may be numbers of registers
abbrev pub random_word : ℕ → ℕ → List ℕ
random_word number place =
    draw number place 23 ∷ draw number (place + 1) 8 ∷ draw number (place + 2) 8 ∷ draw number (place + 3) 8 ∷ []

unfoldable pub random_program : ℕ → ℕ → List ℕ
random_program number place = flat_map (λ i. random_word number (place + 4 * i)) (below 32)

-- the program of a template, whose draws begin at a place
abbrev pub program_of : Template → ℕ → ℕ → List ℕ
program_of Spin number place = code_of (Jmp 0 ∷ [])
program_of Wait number place = code_of (Trap 1 ∷ Jmp 0 ∷ [])
program_of Slack number place = code_of (Li 1 (1 + draw number place 1000) ∷ Trap 7 ∷ Jmp 0 ∷ [])
program_of Random number place = random_program number place
program_of Parent number place =
    code_of (Li 1 2 ∷ Li 2 (1 + draw number place 4) ∷ Li 3 6 ∷ Trap 3 ∷ Trap 1 ∷ Jmp 4 ∷ Trap 8 ∷ Trap 2 ∷ [])
