-- What is allowed is made of no other numbers than those whose faults are told behind it.
use Rattle.std.proofs.Common.{◌≡◌, ◌∙◌, sym, ap, refl, eq-eqb, ◌+◌, ◌*◌, ◌-◌, ℕ, Bool, true, false, cond, length, Option, Some, None}
use Rattle.std.specs.Prelude.{◌==◌, ◌&&◌, ◌||◌, nat_lt, slice_get}
use Rattle.std.specs.Option.{option_map, option_map_or}
use Rattle.dk_config.specs.Configuration.{Configuration}
use Rattle.dk_config.specs.Windows.{period, main_level, ceiling}
use Rattle.dk_config.specs.declared.fault.ConfigFault.{ConfigFault}
use Rattle.dk_config.specs.declared.fault.Section.{Section}
use Rattle.dk_config.specs.declared.fault.Section.TheVariants as section
use Rattle.dk_config.specs.declared.fault.Field.{Field}
use Rattle.dk_config.specs.declared.fault.Field.TheVariants as field
use Rattle.dk_config_report.specs.declared.allowed.Allowed.TheVariants as allowed
use Rattle.dk_config_report.specs.Allowed.{value_at, range_of, rows_of, slowest_of, allowed_at}
use Rattle.dk_config_report.specs.Following.{is_version, is_levels, is_level_key, is_switch, is_period, is_level, is_ceiling, HaveSameBounds}

same_value : {A : Type 0} (x y : A) → Some x ≡ Some y → x ≡ y
same_value x y h = cc

-- a number of a row, 0 where it has none
number_or : {A : Type 0} (f : A → ℕ) (o : Option A) → option_map_or f o 0 ≡ option_map_or (λ n. n) (option_map f o) 0
number_or f None = refl
number_or f (Some a) = refl

same_number : {A : Type 0} (f : A → ℕ) (o p : Option A) → option_map f o ≡ option_map f p → option_map_or f o 0 ≡ option_map_or f p 0
same_number f o p h = number_or f o ∙ ap (λ q. option_map_or (λ n. n) q 0) h ∙ sym (number_or f p)

abbrev at : Section → ℕ → Field → ConfigFault
at s r k = record { number = 0; section = s; row = r; field = k }

module _ (c d : Configuration) where
  abbrev Same : ConfigFault → Type 0
  Same g = value_at c g.section g.row g.field ≡ value_at d g.section g.row g.field

  rows : (k : Field) → ((g : ConfigFault) → (is_level_key k && is_version g.section g.field) ≡ true → Same g) → rows_of c.version k ≡ rows_of d.version k
  rows field.Level same = ap (λ v. rows_of v field.Level) (same_value c.version d.version (same (at section.Top 0 field.Version) refl))
  rows field.Version same = refl
  rows field.Costs same = refl
  rows field.Process same = refl
  rows field.Mutex same = refl
  rows field.Switch same = refl
  rows field.Call same = refl
  rows field.Period same = refl
  rows field.Release same = refl
  rows field.Name same = refl
  rows field.Program same = refl
  rows field.Budget same = refl
  rows field.Memory same = refl
  rows field.Threads same = refl
  rows field.Slack same = refl
  rows field.MaxLevel same = refl
  rows field.Ceiling same = refl
  rows field.Hold same = refl
  rows field.Users same = refl
  rows field.Unknown same = refl

  slowest : (p : ℕ) → ((g : ConfigFault) → ((is_version g.section g.field || is_levels g.section g.field) || (is_level g.section g.field && (g.row == p))) ≡ true → Same g) → slowest_of c p ≡ slowest_of d p
  slowest p same =
      let version = same_value c.version d.version (same (at section.Top 0 field.Version) refl) in
      let levels = same_value (length c.levels) (length d.levels) (same (at section.Top 0 field.Level) refl) in
      let level : main_level c p ≡ main_level d p = same_number (λ row. row.level) (slice_get c.processes p) (slice_get d.processes p) (same (at section.Process p field.Level) (eq-eqb p p refl)) in
      ap (λ v. cond ((v == 1) && nat_lt (main_level c p) (length c.levels)) (allowed.Last (length c.levels)) (allowed.Levels (main_level c p) (length c.levels))) version
      ∙ ap (λ n. cond ((d.version == 1) && nat_lt (main_level c p) n) (allowed.Last n) (allowed.Levels (main_level c p) n)) levels
      ∙ ap (λ l. cond ((d.version == 1) && nat_lt l (length d.levels)) (allowed.Last (length d.levels)) (allowed.Levels l (length d.levels))) level

  -- rule by rule
  go : (k : Field) (r : ℕ) (t4 t5 t6 t7 t8 t9 t10 t11 t12 : Bool)
      → ((g : ConfigFault)
      → cond t4 false
      (cond t5 (is_level_key k && is_version g.section g.field)
      (cond t6 false
      (cond t7 (is_period g.section g.field && (g.row == r - 1))
      (cond t8 false
      (cond t9 false
      (cond t10 (is_levels g.section g.field)
      (cond t11 (is_switch g.section g.field)
      (cond t12 (is_ceiling g.section g.field && (g.row == r))
      ((is_version g.section g.field || is_levels g.section g.field) || (is_level g.section g.field && (g.row == r)))))))))))
      ≡ true
      → Same g)
      → cond t4 (allowed.Range 1 2)
      (cond t5 (rows_of c.version k)
      (cond t6 (range_of k)
      (cond t7 (allowed.Multiples (period c (r - 1)))
      (cond t8 allowed.Spelling
      (cond t9 allowed.OwnName
      (cond t10 (allowed.Below (length c.levels)) (cond t11 (allowed.AtLeast (2 * c.costs.switch + 1)) (cond t12 (allowed.Users (ceiling c r)) (slowest_of c r)))))))))
      ≡ cond t4 (allowed.Range 1 2)
      (cond t5 (rows_of d.version k)
      (cond t6 (range_of k)
      (cond t7 (allowed.Multiples (period d (r - 1)))
      (cond t8 allowed.Spelling
      (cond t9 allowed.OwnName
      (cond t10 (allowed.Below (length d.levels)) (cond t11 (allowed.AtLeast (2 * d.costs.switch + 1)) (cond t12 (allowed.Users (ceiling d r)) (slowest_of d r)))))))))
  go k r true t5 t6 t7 t8 t9 t10 t11 t12 same = refl
  go k r false true t6 t7 t8 t9 t10 t11 t12 same = rows k same
  go k r false false true t7 t8 t9 t10 t11 t12 same = refl
  go k r false false false true t8 t9 t10 t11 t12 same =
      ap allowed.Multiples (same_number (λ row. row.period) (slice_get c.levels (r - 1)) (slice_get d.levels (r - 1)) (same (at section.Level (r - 1) field.Period) (eq-eqb (r - 1) (r - 1) refl)))
  go k r false false false false true t9 t10 t11 t12 same = refl
  go k r false false false false false true t10 t11 t12 same = refl
  go k r false false false false false false true t11 t12 same = ap allowed.Below (same_value (length c.levels) (length d.levels) (same (at section.Top 0 field.Level) refl))
  go k r false false false false false false false true t12 same =
      ap (λ w. allowed.AtLeast (2 * w + 1)) (same_value c.costs.switch d.costs.switch (same (at section.Costs 0 field.Switch) refl))
  go k r false false false false false false false false true same =
      ap allowed.Users (same_number (λ row. row.ceiling) (slice_get c.mutexes r) (slice_get d.mutexes r) (same (at section.Mutex r field.Ceiling) (eq-eqb r r refl)))
  go k r false false false false false false false false false same = slowest r same

pub stays_allowed : (c : Configuration) (f : ConfigFault) (d : Configuration) → HaveSameBounds c d f → allowed_at c f ≡ allowed_at d f
stays_allowed c f d same =
    go c d f.field f.row (f.number == 4) (f.number == 5) (f.number == 6) (f.number == 7) (f.number == 8) (f.number == 9) (f.number == 10) (f.number == 11) (f.number == 12) same
