-- A work that is whole is ready.
use Rattle.dk_show.proofs.Names.{Result, Ok, Err, IfOk, Refusal, Work, IsReady, IsWhole}
use Rattle.dk_show.specs.declared.work.Work.TheVariants as work

pub whole_ready : (result : Result Work Refusal) → IfOk result IsWhole → IfOk result IsReady
whole_ready (Err e) is = tt
whole_ready (Ok (work.Draw w)) is = absurd is
whole_ready (Ok (work.Page page ended)) is = is
whole_ready (Ok (work.Bytes bytes ended)) is = is
