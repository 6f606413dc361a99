use Rattle.std.proofs.Common.{◌≡◌, ◌∙◌, [], ap, subst, sym}
use Rattle.std.specs.Prelude.{true, false, if◌then◌else◌}
use Rattle.dk_outside.specs.Written.{Writes}
use Rattle.dk_ledger.specs.Heading.{ended}
use Rattle.dk_groups.proofs.Texts.{nothing_written}
use Rattle.dk_vcd.specs.Holders.{holder_change, holder_text, is_told}
use Rattle.dk_vcd.proofs.holders.write_holder.Goals as goal

pub returns-then-is_told : goal.returns-then-is_told
returns-then-is_told g c =
    let own = ended (holder_change c.args.header.now c.args.mutex c.args.held) in
    let told : is_told c.args.told c.args.mutex ≡ true = sym c.is_told.ensures ∙ c.if-is_told.true in
    subst (Writes (g.S.Sink.seen c.args.sink.now) (g.S.Sink.seen c.write_to.new.sink) c.write_to.result)
    (ap ended c.change_of.ensures.text ∙ sym (ap (λ b. if b then own else []) told)) c.write_to.ensures

pub returns-else-is_told : goal.returns-else-is_told
returns-else-is_told g c =
    let own = ended (holder_change c.args.header.now c.args.mutex c.args.held) in
    let told : is_told c.args.told c.args.mutex ≡ false = sym c.is_told.ensures ∙ c.if-is_told.false in
    let none : holder_text c.args.header.now c.args.told c.args.mutex c.args.held ≡ [] = ap (λ b. if b then own else []) told in
    nothing_written (g.S.Sink.seen c.args.sink.now) _ (holder_text c.args.header.now c.args.told c.args.mutex c.args.held) none
