-- What was found of the entries is found of the ledger.
use Rattle.dk_audit.proofs.Names.{◌∙◌, ap, subst, Bounded, Granted, Received, AllByWhen, ByWhen, Journal, IsOwnHeading}
use Rattle.dk_audit.proofs.Ticks.{found-in, passed-by}
use Rattle.dk_audit.proofs.auditing.audit.Goals as goal

pub returns-clause-finding : goal.returns-clause-finding
returns-clause-finding c =
    let own = subst (λ (j : Journal). IsOwnHeading c.args.config.now j.heading) c.ledger.view_is (c.is_own_heading.ensures.0 c.if-not-is_own_heading.false) in
    let same = c.as_slice-entries.ensures.value ∙ ap (λ (j : Journal). j.entries) c.ledger.view_is in
    found-in c.args.config.now c.args.ledger.now c.as_slice-entries.result.now c.first_breach.result own same c.first_breach.ensures

pub returns-clause-received : goal.returns-clause-received
returns-clause-received c =
    let same = c.as_slice-entries.ensures.value ∙ ap (λ (j : Journal). j.entries) c.ledger.view_is in
    passed-by (Received c.args.config.now) c.args.config.now c.args.ledger.now c.as_slice-entries.result.now c.first_breach.result
    (λ past audited. c.received_law.ensures c.args.config.now past c.requires.checked c.requires.accepted audited) same c.first_breach.ensures

pub returns-clause-bounded : goal.returns-clause-bounded
returns-clause-bounded c =
    let same = c.as_slice-entries.ensures.value ∙ ap (λ (j : Journal). j.entries) c.ledger.view_is in
    passed-by (Bounded c.args.config.now) c.args.config.now c.args.ledger.now c.as_slice-entries.result.now c.first_breach.result
    (λ past audited. c.bounded_law.ensures c.args.config.now past c.requires.checked c.requires.accepted audited) same c.first_breach.ensures

pub returns-clause-by_when : goal.returns-clause-by_when
returns-clause-by_when c =
    let same = c.as_slice-entries.ensures.value ∙ ap (λ (j : Journal). j.entries) c.ledger.view_is in
    passed-by (ByWhen c.args.config.now) c.args.config.now c.args.ledger.now c.as_slice-entries.result.now c.first_breach.result
    (λ past audited. c.by_when_law.ensures c.args.config.now past c.requires.checked c.requires.accepted audited) same c.first_breach.ensures

pub returns-clause-all_by_when : goal.returns-clause-all_by_when
returns-clause-all_by_when c =
    let same = c.as_slice-entries.ensures.value ∙ ap (λ (j : Journal). j.entries) c.ledger.view_is in
    passed-by (AllByWhen c.args.config.now) c.args.config.now c.args.ledger.now c.as_slice-entries.result.now c.first_breach.result
    (λ past audited. c.all_by_when_law.ensures c.args.config.now past c.requires.checked c.requires.accepted audited) same c.first_breach.ensures

pub returns-clause-granted : goal.returns-clause-granted
returns-clause-granted c =
    let same = c.as_slice-entries.ensures.value ∙ ap (λ (j : Journal). j.entries) c.ledger.view_is in
    passed-by (Granted c.args.config.now) c.args.config.now c.args.ledger.now c.as_slice-entries.result.now c.first_breach.result
    (c.granted_law.ensures c.args.config.now) same c.first_breach.ensures
