-- The table of commands: what may stand behind each command word.
use Rattle.std.specs.Prelude.{ℕ, Bool, false, true, codes, find, is_some, map, not, ◌||◌, List, Option, if◌then◌else◌}
use Rattle.std.specs.Borrow.{Bor}
use Rattle.std.specs.Str.{bytes_eq}
use Rattle.dk_show_request.specs.declared.commands.Command.{Command}
use Rattle.dk_show_request.specs.declared.table.Kind.{Kind}
use Rattle.dk_show_request.specs.declared.table.Kind.TheVariants as kind
use Rattle.dk_show_request.specs.declared.table.TheConstants.{COMMANDS}

pub record Form : Type 0 where
  pub command : Command
  pub word : List ℕ
  -- the names of the arguments that must stand, in order
  pub needed : List (List ℕ)
  -- of those behind them that all stand or none
  pub optional : List (List ℕ)
  -- what stands for those behind the first
  pub kind : Kind
  -- the names of the flags, each behind two dashes, of which one at most may stand, anywhere
  pub flags : List (List ℕ)
  -- the name of the option, which may stand once, anywhere, and nothing where there is none
  pub option : List ℕ
  -- that of the word behind it
  pub value : List ℕ
  -- what the command is for, and a call of it
  pub about : List ℕ
  pub example : List ℕ

-- the last argument stands for one word or several
abbrev pub takes_several : Kind → Bool
takes_several kind.Names = true
takes_several kind.Processes = true
takes_several kind.Allotments = true
takes_several _ = false

-- those behind the first are ticks
abbrev pub takes_ticks : Kind → Bool
takes_ticks kind.Ticks = true
takes_ticks _ = false

-- a row of the table as the program has it, by references
abbrev pub Words : Type 0
Words = Bor (List (Bor (List ℕ)))

abbrev pub RowLent : Type 0
RowLent = Command × Bor (List ℕ) × (Words × Words × Kind) × (Words × (Bor (List ℕ) × Bor (List ℕ))) × (Bor (List ℕ) × Bor (List ℕ))

abbrev pub form_lent : RowLent → Form
form_lent r = record {
  command = r.0;
  word = r.1.now;
  needed = map (λ w. w.now) r.2.0.now;
  optional = map (λ w. w.now) r.2.1.now;
  kind = r.2.2;
  flags = map (λ w. w.now) r.3.0.now;
  option = r.3.1.0.now;
  value = r.3.1.1.now;
  about = r.4.0.now;
  example = r.4.1.now;
}

-- and as a statement has one of a constant
abbrev pub Text : Type 0
Text = record { now : List ℕ }

abbrev pub Texts : Type 0
Texts = record { now : List Text }

abbrev pub RowConstant : Type 0
RowConstant = Command × Text × (Texts × Texts × Kind) × (Texts × (Text × Text)) × (Text × Text)

abbrev pub form_constant : RowConstant → Form
form_constant r = record {
  command = r.0;
  word = r.1.now;
  needed = map (λ w. w.now) r.2.0.now;
  optional = map (λ w. w.now) r.2.1.now;
  kind = r.2.2;
  flags = map (λ w. w.now) r.3.0.now;
  option = r.3.1.0.now;
  value = r.3.1.1.now;
  about = r.4.0.now;
  example = r.4.1.now;
}

-- the commands, in the order of the usage line
abbrev pub forms : List Form
forms = map form_constant COMMANDS.now

-- the word of a command, for one of the flags that ask for help the word "help"
abbrev pub meant : List ℕ → List ℕ
meant word = if bytes_eq word (codes "--help") || bytes_eq word (codes "-h") then codes "help" else word

-- the command of this word
unfoldable pub form_named : List ℕ → Option Form
form_named word = find (λ f. bytes_eq f.word (meant word)) forms

abbrev pub is_no_command : List ℕ → Bool
is_no_command word = not (is_some (form_named word))
