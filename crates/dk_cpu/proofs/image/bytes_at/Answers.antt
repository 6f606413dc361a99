use Rattle.dk_cpu.proofs.Bytes.{four-bytes}
use Rattle.dk_cpu.proofs.image.bytes_at.Goals as goal

pub returns : goal.returns
returns c = four-bytes c.args.code.now c.args.at c.requires
