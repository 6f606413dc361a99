-- When the tables may be asked about the threads: before the clock moves on, and where an event is booked, of an entry
-- that follows the rules.
use Rattle.std.specs.Prelude.{List}
use Rattle.dk_config.specs.Configuration.{Configuration}
use Rattle.dk_trace.specs.declared.Entry.{Entry}
use Rattle.dk_trace.specs.Audit.{Follows}
use Rattle.dk_past.specs.Past.{Past, Tick, Ready, Charged, Booked, Closed}

abbrev pub IsTellingAt : Tick → Configuration → List Entry → Type 0
IsTellingAt Ready c past = Unit {0}
IsTellingAt Charged c past = Unit {0}
IsTellingAt (Booked e) c past = Follows c past e
IsTellingAt (Closed e) c past = ⊥

abbrev pub IsTelling : Past → Type 0
IsTelling p = IsTellingAt p.tick p.config p.entries
