-- What the readers' results stand for.
use Rattle.std.specs.Prelude.{List, map, Option}
use Rattle.std.specs.Option.{option_map}
use Rattle.dk_asm.specs.declared.operand.Operand.{Operand as ReadOperand}
use Rattle.dk_asm.specs.declared.operand.Operand.TheVariants as read
use Rattle.dk_asm.specs.declared.line.Statement.{Statement as ReadStatement}
use Rattle.dk_asm.specs.declared.line.Statement.TheVariants as read_as
use Rattle.dk_asm.specs.declared.line.Line.{Line as ReadLine}
use Rattle.dk_asm.specs.Operands.{Operand}
use Rattle.dk_asm.specs.Grammar.{Statement, Parts}
use Rattle.dk_asm.specs.Source.{Line}
use Rattle.dk_asm.specs.declared.reasons.Reason.{Reason as ReadReason}
use Rattle.dk_asm.specs.Reasons.{Reason}

abbrev pub operand : ReadOperand → Operand
operand (read.Value n) = Operand.value n
operand (read.Label name) = Operand.label name.now
operand read.Outside = Operand.outside

abbrev pub operands : List ReadOperand → List Operand
operands os = map operand os

abbrev pub statement : ReadStatement → Statement
statement (read_as.Instruction m os) = Statement.instruction m (operands os.items)
statement (read_as.Bytes os) = Statement.bytes (operands os.items)

abbrev pub parts : ReadLine → Parts
parts l = record { label = option_map (λ name. name.now) l.label; statement = option_map statement l.statement }

-- a line that isn't of the form is none
abbrev pub seen_line : Option ReadLine → Line
seen_line line = option_map parts line

abbrev pub seen_lines : List (Option ReadLine) → List Line
seen_lines lines = map seen_line lines

abbrev pub reason : ReadReason → Reason
reason r = record { text = r.text.now; operand = r.operand; wanted = r.wanted }
