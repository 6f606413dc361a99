-- Where a text stands with the status of what is done, no other status stands.
use Rattle.dk_show.specs.Budgets.{IsOfTimes, budgets_end, config_at}
use Rattle.dk_show_request.specs.declared.request.BudgetsForm.{BudgetsForm}
use Rattle.show_budgets.specs.Wrong.{table_told}
use Rattle.show_budgets.specs.declared.report.Ended.TheVariants as end
use Rattle.dk_show.proofs.Names.{ℕ, ◌≡◌, ◌∙◌, ◌⊎◌, ◌<◌, inl, inr, List, length, reverse, sym, ap, subst, refl, arith, Bool, true, false, MatchBool, Option, Some, None, IfSome, Result, Ok, Err, MAX_CONFIG_BYTES, MAX_LEDGER_BYTES, Configuration, Verdict, verdict_of, LoadFault, reading, Journal, one_text, MAX_GROUPS, Telling, Range, RangeRequest, Request, Refusal, Status, IsAnswer, IsFaulty, refusal_status, IsOwnHeading, AreReactionsTold, ChainIn, IsChainTold, IsOfOther, IsOfReactions, chain_at, IsOf, certified_at, IsOfSource, is_source_name, IsOfProfile, MAX_PROFILE_BYTES, MAX_SOURCE_BYTES, IsSought, IsOfHolds, IsOfOwnHolds, IsOfWindows, windows_end, WindowsForm, IsBehind, IsDrawn, IsOfBytes, IsOfDocument, IsOfFaults, IsOfPicture, IsOfOwnPicture, IsPictureUnder, Promised, nothing_promised, IsOfReading, IsOfRequest, IsPicture, IsToldOf, groups_asked, to_of}
use Rattle.std.specs.Prelude.{[], ◌∷◌, is_some, not}
use Rattle.std.proofs.Common.{zero, suc}
use Rattle.dk_allotment.specs.Given.{IsOverdrawn}
use Rattle.show_rows.specs.declared.row.Form.{Form}
use Rattle.dk_show_request.specs.declared.allotments.Allotment.{Allotment}
use Rattle.dk_show.specs.Slacks.{AreAllotted, IsOfAllotments, IsOfFit, IsOfSlack, slack_end, slack_form, ticks_by, unfit_text}
use Rattle.dk_certify.specs.declared.certifying.Verdict.TheVariants as verdict
use Rattle.dk_loader.specs.declared.fault.LoadFault.TheVariants as fault
use Rattle.dk_show_request.specs.declared.commands.Telling.TheVariants as telling
use Rattle.dk_show_request.specs.declared.request.Request.TheVariants as request
use Rattle.dk_show.specs.declared.refusal.Refusal.TheVariants as why
use Rattle.dk_show.specs.declared.status.Status.TheVariants as status
use Rattle.dk_show.proofs.Changing.{impact_ends}
use Rattle.dk_show.proofs.HoldEnds.{holds_ends, own_ends}
use Rattle.dk_show.specs.Output.{Files, IsOfNamed}

drawn_ends : (r : RangeRequest) (j k : Journal) (t u : List ℕ) (s : Status) → j ≡ k
    → IsDrawn r j t status.Done ⊎ IsBehind r j t status.Done → IsDrawn r k u s ⊎ IsBehind r k u s → s ≡ status.Done
drawn_ends r j k t u s same (inl d) (inl e) = e.done
drawn_ends r j k t u s same (inl d) (inr b) =
    let within = d.within in
    let behind = subst (λ (x : Journal). length x.entries < to_of r.range (length x.entries)) (sym same) b.behind in
    absurd (omega (arith, within, behind))
drawn_ends r j k t u s same (inr b) other = let bad = b.says.1 in cc

ledger_ends : (r : RangeRequest) (bytes t u : List ℕ) (s : Status) → IsOfBytes r bytes t status.Done → IsOfBytes r bytes u s → s ≡ status.Done
ledger_ends r bytes t u s (inl wrong) other = let bad = wrong.says.1 in cc
ledger_ends r bytes t u s (inr one) (inl wrong) = absurd (wrong.none one.ledger one.readable one.bytes_are)
ledger_ends r bytes t u s (inr one) (inr two) =
    drawn_ends r one.ledger two.ledger t u s (one_text one.ledger two.ledger one.readable two.readable (one.bytes_are ∙ sym two.bytes_are)) one.drawn two.drawn

picture_ends : (x y : Promised) (range : Option Range) (j k : Journal) (t u : List ℕ) (s : Status) → j ≡ k → IsPicture x range j t status.Done → IsPicture y range k u s → s ≡ status.Done
picture_ends x y range j k t u s same (inl d) (inl e) = e.done
picture_ends x y range j k t u s same (inl d) (inr (inl b)) =
    let within = d.within in
    let behind = subst (λ (l : Journal). length l.entries < to_of range (length l.entries)) (sym same) b.behind in
    absurd (omega (arith, within, behind))
picture_ends x y range j k t u s same (inl d) (inr (inr b)) =
    let few = d.few in
    let more = subst (λ (l : Journal). MAX_GROUPS < length (groups_asked range l)) (sym same) b.many.more in
    absurd (omega (arith, few, more))
picture_ends x y range j k t u s same (inr (inl b)) other = let bad = b.says.1 in cc
picture_ends x y range j k t u s same (inr (inr b)) other = let bad = b.says.1 in cc

pictures_ends : (range : Option Range) (bytes t u : List ℕ) (s : Status) → IsOfPicture range bytes t status.Done → IsOfPicture range bytes u s → s ≡ status.Done
pictures_ends range bytes t u s (inl wrong) other = let bad = wrong.says.1 in cc
pictures_ends range bytes t u s (inr one) (inl wrong) = absurd (wrong.none one.ledger one.readable one.bytes_are)
pictures_ends range bytes t u s (inr one) (inr two) =
    picture_ends nothing_promised nothing_promised range one.ledger two.ledger t u s (one_text one.ledger two.ledger one.readable two.readable (one.bytes_are ∙ sym two.bytes_are)) one.drawn two.drawn

own_picture_ends : (c : Configuration) (range : Option Range) (j k : Journal) (t u : List ℕ) (s : Status) → j ≡ k → IsPictureUnder c range j t status.Done
    → IsPictureUnder c range k u s → s ≡ status.Done
own_picture_ends c range j k t u s same (inl a) (inl b) = picture_ends a.promised b.promised range j k t u s same a.drawn b.drawn
own_picture_ends c range j k t u s same (inl a) (inr b) = absurd (b.other (subst (λ (l : Journal). IsOwnHeading c l.heading) same a.own))
own_picture_ends c range j k t u s same (inr a) other = let bad = a.says.1 in cc

own_pictures_ends : (c : Configuration) (range : Option Range) (bytes t u : List ℕ) (s : Status) → IsOfOwnPicture c range bytes t status.Done → IsOfOwnPicture c range bytes u s → s ≡ status.Done
own_pictures_ends c range bytes t u s (inl wrong) other = let bad = wrong.says.1 in cc
own_pictures_ends c range bytes t u s (inr one) (inl wrong) = absurd (wrong.none one.ledger one.readable one.bytes_are)
own_pictures_ends c range bytes t u s (inr one) (inr two) =
    own_picture_ends c range one.ledger two.ledger t u s (one_text one.ledger two.ledger one.readable two.readable (one.bytes_are ∙ sym two.bytes_are)) one.drawn two.drawn

windows_ends : (f : WindowsForm) (bytes t u : List ℕ) (s : Status) → IsOfWindows f bytes t status.Done → IsOfWindows f bytes u s → s ≡ status.Done
windows_ends f bytes t u s (inl wrong) other = let bad = wrong.says.1 in cc
windows_ends f bytes t u s (inr one) (inl wrong) = absurd (wrong.none one.ledger one.readable one.bytes_are)
windows_ends f bytes t u s (inr one) (inr two) =
    let same = one_text one.ledger two.ledger one.readable two.readable (one.bytes_are ∙ sym two.bytes_are) in
    two.told.1 ∙ ap (λ (j : Journal). windows_end f j.heading (reverse j.entries)) (sym same) ∙ sym one.told.1

told_ends : (t : Telling) (csv : Bool) (c : Configuration) (v : Verdict) (x y : List ℕ) (s : Status)
    → IsToldOf t csv c v x status.Done → IsToldOf t csv c v y s → s ≡ status.Done
told_ends telling.Certify csv c v x y s one two = two.1 ∙ sym one.1
told_ends telling.Margins csv c v x y s one two = two.1
told_ends telling.When csv c (verdict.Accepted rows) x y s one two = two.1
told_ends telling.When csv c (verdict.Fails level needs window) x y s one two = let bad = one.1 in cc
told_ends telling.Warnings csv c v x y s one two = two.1

reading_ends : (t : Telling) (csv : Bool) (r : Result Configuration LoadFault) (x y : List ℕ) (s : Status)
    → IsOfReading t csv r x status.Done → IsOfReading t csv r y s → s ≡ status.Done
reading_ends t csv (Ok c) x y s one two = told_ends t csv c (verdict_of c) x y s one two
reading_ends t csv (Err fault.NotToml) x y s one two = let bad = one.1 in cc
reading_ends t csv (Err (fault.Config f)) x y s one two = let bad = one.1 in cc
reading_ends t csv (Err fault.Depot) x y s one two = absurd one
reading_ends t csv (Err (fault.TooLong p)) x y s one two = absurd one
reading_ends t csv (Err fault.NoMemory) x y s one two = absurd one

module _ (at : Files) (name : List ℕ) (most : ℕ) (long : Refusal) (IsOf : List ℕ → List ℕ → Status → Type 0) (x y : List ℕ) (s : Status)
    (refused : status.Done ≡ refusal_status long → ⊥) (ends : (bytes : List ℕ) → IsOf bytes x status.Done → IsOf bytes y s → s ≡ status.Done) where
  same_file : (bytes more : List ℕ) → at name ≡ Some bytes → at name ≡ Some more → more ≡ bytes
  same_file bytes more is also = cc

  pub named_ends : IsOfNamed at name most long IsOf x status.Done → IsOfNamed at name most long IsOf y s → s ≡ status.Done
  named_ends (bytes, is, inl (far, says)) two = absurd (refused says.1)
  named_ends (bytes, is, inr (near, one)) (more, also, inl (far, says)) =
      let same = same_file bytes more is also in
      let long = subst (λ (b : List ℕ). most < length b) same far in
      absurd (omega (arith, near, long))
  named_ends (bytes, is, inr (near, one)) (more, also, inr (close, two)) =
      ends bytes one (subst (λ (b : List ℕ). IsOf b y s) (same_file bytes more is also) two)

-- where the first part is refused, so is the whole
of_ends : {X : Type 0} (r : Result X Refusal) (Told : X → List ℕ → Status → Type 0) (x y : List ℕ) (s : Status)
    → ((a : X) → Told a x status.Done → Told a y s → s ≡ status.Done) → IsOf r Told x status.Done → IsOf r Told y s → s ≡ status.Done
of_ends (Ok a) Told x y s ends one two = ends a one two
of_ends (Err e) Told x y s ends one two = two.1.1 ∙ sym one.1.1

heard_ends : (chain : ChainIn) (j k : Journal) (x y : List ℕ) (s : Status) → j ≡ k → AreReactionsTold chain j x status.Done ⊎ IsOfOther chain j x status.Done
    → AreReactionsTold chain k y s ⊎ IsOfOther chain k y s → s ≡ status.Done
heard_ends chain j k x y s same (inl a) (inl b) = b.done
heard_ends chain j k x y s same (inl a) (inr b) = absurd (b.other (subst (λ (l : Journal). IsOwnHeading chain.config l.heading) same a.own))
heard_ends chain j k x y s same (inr a) other = let bad = a.says.1 in cc

reactions_ends : (chain : ChainIn) (bytes x y : List ℕ) (s : Status) → IsOfReactions chain bytes x status.Done → IsOfReactions chain bytes y s → s ≡ status.Done
reactions_ends chain bytes x y s (inl wrong) other = let bad = wrong.says.1 in cc
reactions_ends chain bytes x y s (inr one) (inl wrong) = absurd (wrong.none one.ledger one.readable one.bytes_are)
reactions_ends chain bytes x y s (inr one) (inr two) =
    heard_ends chain one.ledger two.ledger x y s (one_text one.ledger two.ledger one.readable two.readable (one.bytes_are ∙ sym two.bytes_are)) one.told two.told

wrong_ends : (at : Files) (file x y : List ℕ) (s : Status) (source : Bool)
    → MatchBool source (IsOfNamed at file MAX_SOURCE_BYTES why.LongSource IsOfSource x status.Done) (IsOfNamed at file MAX_CONFIG_BYTES why.LongConfig IsOfFaults x status.Done)
    → MatchBool source (IsOfNamed at file MAX_SOURCE_BYTES why.LongSource IsOfSource y s) (IsOfNamed at file MAX_CONFIG_BYTES why.LongConfig IsOfFaults y s) → s ≡ status.Done
wrong_ends at file x y s true one two =
    named_ends at file MAX_SOURCE_BYTES why.LongSource IsOfSource x y s (λ bad. cc) (λ bytes a b. b.1 ∙ sym a.1) one two
wrong_ends at file x y s false one two =
    named_ends at file MAX_CONFIG_BYTES why.LongConfig IsOfFaults x y s (λ bad. cc) (λ bytes a b. b.1 ∙ sym a.1) one two

allotted_ends : (form : Form) (c : Configuration) (xs x y : List ℕ) (s : Status) → AreAllotted form c xs x status.Done → AreAllotted form c xs y s → s ≡ status.Done
allotted_ends form c xs x y s one two = holds one.are.passed two.are.passed one.are.found two.are.found one.are.hold two.are.hold
  where
    holds : (p q : Option ℕ) → IsOverdrawn c xs p → IsOverdrawn c xs q → one.found.hold ≡ not (is_some p) → two.found.hold ≡ not (is_some q) → s ≡ status.Done
    holds (Some level) q over also is too =
        let ends : status.Done ≡ slack_end false = one.ends ∙ ap slack_end is in
        let bad : status.Done ≡ status.Refused = ends in cc
    holds None (Some level) fit over is too =
        let passes = over.1 in
        let within = fit level over.0 in
        absurd (omega (arith, passes, within))
    holds None None fit also is too = two.ends ∙ ap slack_end too

fit_ends : (o : Option (List ℕ)) (form : Form) (c : Configuration) (xs x y : List ℕ) (s : Status) → IsOfFit o form c xs x status.Done → IsOfFit o form c xs y s → s ≡ status.Done
fit_ends (Some unfit) form c xs x y s one two = let bad = one.1 in cc
fit_ends None form c xs x y s one two = allotted_ends form c xs x y s one two

slack_ends : (given : List Allotment) (form : Form) (c : Configuration) (x y : List ℕ) (s : Status) → IsOfAllotments given form c x status.Done → IsOfAllotments given form c y s → s ≡ status.Done
slack_ends [] form c x y s one two = two.1
slack_ends (one_of ∷ rest) form c x y s one two = fit_ends (unfit_text c.processes (one_of ∷ rest)) form c (ticks_by c.processes (one_of ∷ rest)) x y s one two

times_ends : (form : BudgetsForm) (percent : ℕ) (c : Configuration) (table x y : List ℕ) (s : Status) → IsOfTimes form percent c table x status.Done → IsOfTimes form percent c table y s → s ≡ status.Done
times_ends form percent c table x y s one two = go (length (table_told c table)) refl
  where
    go : (n : ℕ) → length (table_told c table) ≡ n → s ≡ status.Done
    go zero none =
        let same : two.told.ended ≡ one.told.ended = (two.are.right none).ended ∙ sym (one.are.right none).ended in
        two.ends ∙ ap budgets_end same ∙ sym one.ends
    go (suc n) some =
        let faulty : one.told.ended ≡ end.Faulty = (one.are.wrong (omega (arith, some))).1 in
        let bad : status.Done ≡ status.Refused = one.ends ∙ ap budgets_end faulty in cc

pub request_ends : (r : Request) (at : Files) (x y : List ℕ) (s : Status) → (IsSought (Some r) → ⊥) → IsOfRequest r at x status.Done → IsOfRequest r at y s → s ≡ status.Done
request_ends (request.Draw r) at x y s known one two =
    named_ends at r.ledger MAX_LEDGER_BYTES why.LongLedger (IsOfBytes r) x y s (λ bad. cc) (λ bytes a b. ledger_ends r bytes x y s a b) one two
request_ends (request.Picture ledger None range) at x y s known one two =
    named_ends at ledger MAX_LEDGER_BYTES why.LongLedger (IsOfPicture range) x y s (λ bad. cc) (λ bytes a b. pictures_ends range bytes x y s a b) one two
request_ends (request.Picture ledger (Some file) range) at x y s known one two =
    of_ends (certified_at (at file)) (λ c. IsOfNamed at ledger MAX_LEDGER_BYTES why.LongLedger (IsOfOwnPicture c range)) x y s
    (λ c. named_ends at ledger MAX_LEDGER_BYTES why.LongLedger (IsOfOwnPicture c range) x y s (λ bad. cc) (λ bytes a b. own_pictures_ends c range bytes x y s a b))
    one two
request_ends (request.Windows ledger f) at x y s known one two =
    named_ends at ledger MAX_LEDGER_BYTES why.LongLedger (IsOfWindows f) x y s (λ bad. cc) (λ bytes a b. windows_ends f bytes x y s a b) one two
request_ends (request.Holds ledger None) at x y s known one two =
    named_ends at ledger MAX_LEDGER_BYTES why.LongLedger IsOfHolds x y s (λ bad. cc) (λ bytes a b. holds_ends bytes x y s a b) one two
request_ends (request.Holds ledger (Some file)) at x y s known one two =
    of_ends (certified_at (at file)) (λ c. IsOfNamed at ledger MAX_LEDGER_BYTES why.LongLedger (IsOfOwnHolds c)) x y s
    (λ c. named_ends at ledger MAX_LEDGER_BYTES why.LongLedger (IsOfOwnHolds c) x y s (λ bad. cc) (λ bytes a b. own_ends c bytes x y s a b))
    one two
request_ends (request.Faults file) at x y s known one two = wrong_ends at file x y s (is_source_name file) one two
request_ends (request.Tell r) at x y s known one two =
    named_ends at r.file MAX_CONFIG_BYTES why.LongConfig (IsOfDocument r.telling r.as_csv) x y s (λ bad. cc)
    (λ bytes a b. reading_ends r.telling r.as_csv (reading bytes) x y s a b) one two
request_ends (request.Slack r) at x y s known one two =
    of_ends (certified_at (at r.file)) (IsOfSlack r) x y s (λ c. slack_ends r.allotments (slack_form r.as_csv) c x y s) one two
request_ends (request.Chain r) at x y s known one two =
    of_ends (chain_at at r) IsChainTold x y s (λ chain a b. b.1) one two
request_ends (request.Reactions r ledger) at x y s known one two =
    of_ends (chain_at at r) (λ chain. IsOfNamed at ledger MAX_LEDGER_BYTES why.LongLedger (IsOfReactions chain)) x y s
    (λ chain. named_ends at ledger MAX_LEDGER_BYTES why.LongLedger (IsOfReactions chain) x y s (λ bad. cc) (λ bytes a b. reactions_ends chain bytes x y s a b))
    one two
request_ends (request.Impact r) at x y s known one two = impact_ends at r x y s one two
request_ends (request.Repeats file ticks) at x y s known one two = absurd (known tt)
request_ends (request.Check r) at x y s known one two = absurd (known tt)
request_ends (request.Replay r) at x y s known one two =
    of_ends (certified_at (at r.file)) (λ c. IsOfNamed at r.profile MAX_PROFILE_BYTES why.LongProfile (IsOfProfile c r.profile r.name)) x y s
    (λ c. named_ends at r.profile MAX_PROFILE_BYTES why.LongProfile (IsOfProfile c r.profile r.name) x y s (λ bad. cc) (λ bytes a b. b.1 ∙ sym a.1))
    one two
request_ends (request.Budgets r) at x y s known one two =
    of_ends (config_at (at r.file)) (λ c. IsOfNamed at r.times MAX_PROFILE_BYTES why.LongProfile (IsOfTimes r.form r.percent c)) x y s
    (λ c. named_ends at r.times MAX_PROFILE_BYTES why.LongProfile (IsOfTimes r.form r.percent c) x y s (λ bad. cc)
    (λ bytes a b. times_ends r.form r.percent c bytes x y s a b))
    one two
request_ends (request.Help command) at x y s known one two = two.1
request_ends request.Version at x y s known one two = two.1

-- a call that ends otherwise has met the outside or want of memory
pub completes : (files : Option Files) (r : Request) (s : Status) → (IsAnswer s → (y : List ℕ) × IfSome files (λ at. IsOfRequest r at y s))
    → IfSome files (λ at. (x : List ℕ) → (IsSought (Some r) → ⊥) → IsOfRequest r at x status.Done → (s ≡ status.Done) ⊎ IsFaulty s)
completes None r s answers = tt
completes (Some at) r status.Done answers = λ x known one. inl refl
completes (Some at) r status.Usage answers = λ x known one. let two = answers tt in inl (request_ends r at x two.0 status.Usage known one two.1)
completes (Some at) r status.Config answers = λ x known one. let two = answers tt in inl (request_ends r at x two.0 status.Config known one two.1)
completes (Some at) r status.Uncertified answers = λ x known one. let two = answers tt in inl (request_ends r at x two.0 status.Uncertified known one two.1)
completes (Some at) r status.Refused answers = λ x known one. let two = answers tt in inl (request_ends r at x two.0 status.Refused known one two.1)
completes (Some at) r status.DepotFault answers = λ x known one. inr (inl refl)
completes (Some at) r status.SinkFault answers = λ x known one. inr (inr (inl refl))
completes (Some at) r status.NoMemory answers = λ x known one. inr (inr (inr refl))
