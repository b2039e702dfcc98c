use Rattle.examples.proofs.StringPlaces.{string_places as law}
use Rattle.examples.proofs.laws.string_places.Goals as goal

pub returns : goal.returns
returns c = law
