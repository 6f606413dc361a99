use Rattle.std.proofs.Common.{◌∙◌, ap, subst, sym}
use Rattle.dk_outside.specs.Written.{Writes}
use Rattle.dk_holds.specs.Holds.{holding}
use Rattle.dk_vcd.specs.Holders.{moved_text}
use Rattle.dk_vcd.proofs.holders.write_moved.Goals as goal

pub returns-in-Some : goal.returns-in-Some
returns-in-Some g c = λ past holders.
    subst (Writes (g.S.Sink.seen c.args.sink.now) (g.S.Sink.seen c.write_holders.new.sink) c.write_holders.result)
    (ap (λ o. moved_text c.args.header.now o (λ m. holding m past)) (sym c.in-Some.is ∙ c.event_before.ensures)) (c.write_holders.ensures past holders)
