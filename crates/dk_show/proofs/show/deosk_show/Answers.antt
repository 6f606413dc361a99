use Rattle.dk_show.proofs.Names.{ℕ, ◌≡◌, ◌≢◌, ◌+◌, ◌∙◌, ◌⊎◌, List, map, string_bytes, subst, sym, IfSome, Option, IsSought, Request, IsFaulty, WordsMiss, handed_for_words, Leaves, IsOfMeaning}
use Rattle.dk_show.specs.declared.status.Status.TheVariants as status
use Rattle.dk_show.proofs.show.deosk_show.Goals as goal

pub returns-in-Ok-Some-clause-output : goal.returns-in-Ok-Some-clause-output
returns-in-Ok-Some-clause-output g c =
    let meant = sym c.in-Ok-Some.field-0-is ∙ c.in-Ok-Some.ensures.is in
    let files = (g.D.Depot.seen c.args.depot.now).files in
    let words = map string_bytes c.args.words.now in
    subst (λ (o : Option Request). Leaves g.S.Sink.seen (λ text s. IfSome files (λ at. IsOfMeaning words o at text s)) c.args.sink.now c.perform.new.sink c.perform.result)
    meant c.perform.ensures.output

pub returns-in-Ok-Some-clause-complete : goal.returns-in-Ok-Some-clause-complete
returns-in-Ok-Some-clause-complete g c =
    let meant = sym c.in-Ok-Some.field-0-is ∙ c.in-Ok-Some.ensures.is in
    let files = (g.D.Depot.seen c.args.depot.now).files in
    let words = map string_bytes c.args.words.now in
    subst (λ (o : Option Request). IfSome files (λ at. (text : List ℕ) → (IsSought o → ⊥) → IsOfMeaning words o at text status.Done
    → (c.perform.result ≡ status.Done) ⊎ IsFaulty c.perform.result))
    meant c.perform.ensures.complete

pub returns-in-Ok-Some-clause-strays : goal.returns-in-Ok-Some-clause-strays
returns-in-Ok-Some-clause-strays g c =
    let meant = sym c.in-Ok-Some.field-0-is ∙ c.in-Ok-Some.ensures.is in
    let files = (g.D.Depot.seen c.args.depot.now).files in
    subst (λ (o : Option Request). IfSome files (λ at. (WordsMiss o at → ⊥) → (g.D.Depot.seen c.perform.new.depot).strays ≡ (g.D.Depot.seen c.args.depot.now).strays))
    meant c.perform.ensures.strays

pub returns-in-Ok-Some-clause-given : goal.returns-in-Ok-Some-clause-given
returns-in-Ok-Some-clause-given g c =
    let meant = sym c.in-Ok-Some.field-0-is ∙ c.in-Ok-Some.ensures.is in
    let files = (g.D.Depot.seen c.args.depot.now).files in
    let result = c.perform.result in
    subst (λ (o : Option Request). IfSome files (λ at. result ≢ status.DepotFault → result ≢ status.NoMemory
    → (g.D.Depot.seen c.perform.new.depot).given ≡ (g.D.Depot.seen c.args.depot.now).given + handed_for_words o at))
    meant c.perform.ensures.given
