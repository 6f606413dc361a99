use Rattle.dk_asm.proofs.Imports.{on_ok_weaker, bytes_of, refl}
use Rattle.dk_asm.proofs.encoding.push_instruction.Goals as goal

pub returns : goal.returns
returns c = on_ok_weaker c.push_word.result (λ e. (bytes_of c.instruction_of.result, (c.instruction_of.result, c.instruction_of.ensures.written, refl), e)) c.push_word.ensures
