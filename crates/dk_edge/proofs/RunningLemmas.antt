-- What is seen of the output through the sink in front of it.
use Rattle.std.proofs.Common.{◌≡◌, ℕ, List, [], append-nil, refl, sym, ap, subst, ◌∙◌}
use Rattle.std.specs.Prelude.{Option, Some, None, IfSome, Result, Ok, Err}
use Rattle.std.specs.Io.KnownBytes.{append_known}
use Rattle.dk_outside.specs.Counts.{Rises}
use Rattle.dk_outside.specs.Views.{DepotView, SinkView}
use Rattle.dk_edge.specs.declared.out_sink.OutSink.{OutSink}
use Rattle.dk_edge.specs.declared.running.EdgeFault.{EdgeFault}
use Rattle.dk_edge.specs.declared.running.EdgeFault.TheVariants.{NoMemory, Output}
use Rattle.dk_edge.specs.OutSink.{IsFrontOf, handed_to, held_back, out_view}
use Rattle.dk_edge.specs.Running.{Ran, RanOnce, WasHandedOn}
use Rattle.dk_edge.specs.Words.{usable}

-- where all three are the same, it is the same
pub same_view : (a b : SinkView) → a.written ≡ b.written → a.faults ≡ b.faults → a.capacity ≡ b.capacity → a ≡ b
same_view a b written faults capacity =
    ap (λ (w : Option (List ℕ)). record { written = w; faults = a.faults; capacity = a.capacity }) written
    ∙ ap (λ (n : ℕ). record { written = b.written; faults = n; capacity = a.capacity }) faults
    ∙ ap (λ (c : Option ℕ). record { written = b.written; faults = b.faults; capacity = c }) capacity

pub nothing_waits : (took : Option (List ℕ)) → append_known took [] ≡ took
nothing_waits None = refl
nothing_waits (Some bytes) = ap (λ (t : List ℕ). Some t) (append-nil bytes)

-- a sink in which nothing waits shows what the output does
pub shows_output : {S : Type 0} (seen : S → SinkView) (s : OutSink S) (out : S) → handed_to s ≡ out → held_back s ≡ []
    → out_view seen s ≡ seen out
shows_output seen s out is empty =
    same_view (out_view seen s) (seen out)
    (ap (λ (o : Option (List ℕ)). append_known o (held_back s)) (ap (λ o. (seen o).written) is)
    ∙ ap (λ (t : List ℕ). append_known (seen out).written t) empty ∙ nothing_waits (seen out).written)
    (ap (λ o. (seen o).faults) is) (ap (λ o. (seen o).capacity) is)

-- a call, and its output handed on
pub ran : {T : Type 0} (ends : List (List ℕ) → DepotView → DepotView → SinkView → SinkView → T → Type 0) (words : List (List ℕ))
    (d e : DepotView) (s before after out : SinkView) (status : T) (result : Result T EdgeFault) → before ≡ s
    → ends words d e before after status → WasHandedOn status after out result → Ran ends words d e s out result
ran ends words d e s before after out status (Ok ended) was held (same, written, faults, capacity) =
    subst (λ (v : SinkView). ends words d e v out ended) was
    (subst (λ (v : SinkView). ends words d e before v ended) (same_view after out (sym written) (sym faults) (sym capacity))
    (subst (λ x. ends words d e before after x) (sym same) held))
ran ends words d e s before after out status (Err Output) was held (front, failed) = record {
  status = status;
  view = after;
  ended = subst (λ (v : SinkView). ends words d e v after status) was held;
  front = front;
  failed = failed;
}
ran ends words d e s before after out status (Err NoMemory) was held handed = absurd handed

-- words that a call that wasn't made could have had
pub some_words : (told : Option (List (Option (List ℕ)))) → (words : List (List ℕ)) × IfSome told (λ all. words ≡ usable all)
some_words None = ([], tt)
some_words (Some all) = (usable all, refl)

-- no call was made
pub ran_none : {T : Type 0} (ends : List (List ℕ) → DepotView → DepotView → SinkView → SinkView → T → Type 0)
    (told : Option (List (Option (List ℕ)))) (d e : DepotView) (s out : SinkView) → e ≡ d → out ≡ s
    → RanOnce ends told d e s out (Err NoMemory)
ran_none ends told d e s out same untouched =
    let some = some_words told in record { words = some.0; given = some.1; ran = (same, untouched) }
