use Rattle.dk_request.proofs.Names.{List, map, Bor, ℕ}
use Rattle.dk_request.proofs.Requests.{few_asked, fit_asked}
use Rattle.dk_request.proofs.request.request_in.Goals as goal

pub returns-clause-few : goal.returns-clause-few
returns-clause-few c = few_asked c.request_of.result c.in-Some.command (map (λ (w : Bor (List ℕ)). w.now) c.in_ok-given.given.words.items) c.in_ok-given.given.report c.request_of.ensures

pub returns-clause-fit : goal.returns-clause-fit
returns-clause-fit c = fit_asked c.request_of.result c.in-Some.command (map (λ (w : Bor (List ℕ)). w.now) c.in_ok-given.given.words.items) c.in_ok-given.given.report c.request_of.ensures
