-- The tests by one rule and one section are the tests of the shape.
use Rattle.dk_loader.proofs.Names.{◌≡◌, ◌∙◌, ◌++◌, List, refl, ap, sym, Option, Some, None, Members, ConfigFault, Section, Test, first_broken, append_some, append_none, Version, Rule, version_of, section_tests, nat_tests, arith}
use Rattle.dk_config.specs.declared.fault.Section.TheVariants as section
use Rattle.dk_loader.specs.declared.shape.Rule.TheVariants as rule
use Rattle.dk_loader.specs.Shape.{unknown_tests, missing_tests, wrong_tests, top_wrong, shape_tests}
use Rattle.dk_loader.specs.Keys.{rule_tests}

-- the first of two lists of tests has a fault, or has none
here : (ts us : List Test) (f : ConfigFault) → Some f ≡ first_broken ts → Some f ≡ first_broken (ts ++ us)
here ts us f broken = sym (append_some ts us f (sym broken))

after : (ts us : List Test) (x : Option ConfigFault) → None ≡ first_broken ts → x ≡ first_broken us → x ≡ first_broken (ts ++ us)
after ts us x none rest = rest ∙ sym (append_none ts us (sym none))

-- the section that decides by one rule, after sections that have no fault
module _ (r : Rule) (v : Version) (ms : Members) where
  abbrev broken : Section → Option ConfigFault
  broken s = first_broken (section_tests r s v ms)

  abbrev tests : Section → List Test
  tests s = section_tests r s v ms

  pub top_decides : (f : ConfigFault) → Some f ≡ broken section.Top → Some f ≡ first_broken (rule_tests r v ms)
  unfolding rule_tests
  top_decides f t = here (tests section.Top) (tests section.Costs ++ (tests section.Level ++ (tests section.Process ++ tests section.Mutex))) f t

  pub costs_decide : (f : ConfigFault) → None ≡ broken section.Top → Some f ≡ broken section.Costs → Some f ≡ first_broken (rule_tests r v ms)
  unfolding rule_tests
  costs_decide f t c = grind (arith, nat_tests)

  -- the levels and what comes after them
  from_levels : (x : Option ConfigFault) → None ≡ broken section.Top → None ≡ broken section.Costs
      → x ≡ first_broken (tests section.Level ++ (tests section.Process ++ tests section.Mutex)) → x ≡ first_broken (rule_tests r v ms)
  unfolding rule_tests
  from_levels x t c rest = grind (arith, nat_tests)

  pub levels_decide : (f : ConfigFault) → None ≡ broken section.Top → None ≡ broken section.Costs → Some f ≡ broken section.Level → Some f ≡ first_broken (rule_tests r v ms)
  levels_decide f t c l = from_levels (Some f) t c (here (tests section.Level) (tests section.Process ++ tests section.Mutex) f l)

  pub processes_decide : (f : ConfigFault) → None ≡ broken section.Top → None ≡ broken section.Costs → None ≡ broken section.Level → Some f ≡ broken section.Process
      → Some f ≡ first_broken (rule_tests r v ms)
  processes_decide f t c l p =
      from_levels (Some f) t c (after (tests section.Level) (tests section.Process ++ tests section.Mutex) (Some f) l (here (tests section.Process) (tests section.Mutex) f p))

  pub mutexes_decide : (x : Option ConfigFault) → None ≡ broken section.Top → None ≡ broken section.Costs → None ≡ broken section.Level → None ≡ broken section.Process
      → x ≡ broken section.Mutex → x ≡ first_broken (rule_tests r v ms)
  mutexes_decide x t c l p m = grind (arith, nat_tests, from_levels, after)

unknown_same : (ms : Members) → rule_tests rule.Unknown (version_of ms) ms ≡ unknown_tests ms
unfolding rule_tests unknown_tests
unknown_same ms = refl

missing_same : (v : Version) (ms : Members) → rule_tests rule.Missing v ms ≡ missing_tests ms
unfolding rule_tests missing_tests
missing_same v ms = grind (arith, nat_tests)

wrong_same : (v : Version) (ms : Members) → rule_tests rule.Wrong v ms ≡ wrong_tests ms
unfolding rule_tests wrong_tests top_wrong
wrong_same v ms = refl

pub shape_same : (v : Version) (ms : Members) → v ≡ version_of ms → rule_tests rule.Unknown v ms ++ (rule_tests rule.Missing v ms ++ rule_tests rule.Wrong v ms) ≡ shape_tests ms
unfolding shape_tests
shape_same v ms same = rw (missing_same v ms, wrong_same v ms, same, unknown_same ms) refl

-- the rule that decides, after rules that nothing breaks
module _ (v : Version) (ms : Members) (same : v ≡ version_of ms) where
  abbrev found : Rule → Option ConfigFault
  found r = first_broken (rule_tests r v ms)

  pub unknown_decides : (f : ConfigFault) → Some f ≡ found rule.Unknown → Some f ≡ first_broken (shape_tests ms)
  unknown_decides f u =
      here (rule_tests rule.Unknown v ms) (rule_tests rule.Missing v ms ++ rule_tests rule.Wrong v ms) f u ∙ ap first_broken (shape_same v ms same)

  pub missing_decides : (f : ConfigFault) → None ≡ found rule.Unknown → Some f ≡ found rule.Missing → Some f ≡ first_broken (shape_tests ms)
  missing_decides f u m =
      after (rule_tests rule.Unknown v ms) (rule_tests rule.Missing v ms ++ rule_tests rule.Wrong v ms) (Some f) u
      (here (rule_tests rule.Missing v ms) (rule_tests rule.Wrong v ms) f m)
      ∙ ap first_broken (shape_same v ms same)

  pub wrong_decides : (x : Option ConfigFault) → None ≡ found rule.Unknown → None ≡ found rule.Missing → x ≡ found rule.Wrong → x ≡ first_broken (shape_tests ms)
  wrong_decides x u m w =
      after (rule_tests rule.Unknown v ms) (rule_tests rule.Missing v ms ++ rule_tests rule.Wrong v ms) x u
      (after (rule_tests rule.Missing v ms) (rule_tests rule.Wrong v ms) x m w)
      ∙ ap first_broken (shape_same v ms same)
