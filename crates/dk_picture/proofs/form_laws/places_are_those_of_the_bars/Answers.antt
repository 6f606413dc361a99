use Rattle.dk_picture.proofs.Pixels.{begins_at_place, middle_in_bar}
use Rattle.dk_picture.proofs.form_laws.places_are_those_of_the_bars.Goals as goal

pub returns-clause-begin : goal.returns-clause-begin
returns-clause-begin c = begins_at_place

pub returns-clause-middle : goal.returns-clause-middle
returns-clause-middle c = middle_in_bar
