-- The holds of a thread nest, also in a tick whose event is open: the one that was locked last may last the shortest.
use Rattle.dk_recount.proofs.Names.{ℕ, List, arith, Configuration, Hold, AreNested, nested-above, LastIsLeast, nat_tests}

pub last-least : (c : Configuration) (low : ℕ) (held : List Hold) → AreNested c low held → LastIsLeast c held
last-least c low held r = grind (arith, nat_tests, nested-above)
