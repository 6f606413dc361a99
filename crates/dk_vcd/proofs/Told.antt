-- What is written of a mutex tells its holder at each tick.
use Rattle.std.proofs.Common.{ℕ, ◌≡◌, ◌∙◌, ◌+◌, ◌-◌, ◌<◌, ◌≤◌, ◌++◌, [], ◌∷◌, List, length, take, drop, reverse, sym, ap, refl, subst, arith, append_assoc, length-append, length-drop}
use Rattle.std.specs.Prelude.{Bool, true, false, ◌&&◌, ◌||◌, ◌==◌, not, flat_map, nat_lt, replicate, Option, Some, None, if◌then◌else◌, option_map}
use Rattle.std.specs.Option.{option_or}
use Rattle.std.proofs.Math.Seq.{take-append_seam, take-append-add}
use Rattle.std.proofs.lemmas.Bool.{le-ltb, lt-ltb, ltb-false, ltb-true}
use Rattle.std.proofs.lemmas.List.{length-replicate, length-take, length-take-le, take-append-drop, take-append-le, take-replicate}
use Rattle.dk_trace.specs.declared.ThreadId.{ThreadId}
use Rattle.dk_trace.specs.declared.Label.{Label}
use Rattle.dk_trace.specs.declared.Event.{Event}
use Rattle.dk_trace.specs.declared.Entry.{Entry}
use Rattle.dk_trace.specs.Entries.{is_of, main_of, quiet, thread_of}
use Rattle.dk_ledger.specs.declared.line.LedgerLine.{LedgerLine}
use Rattle.dk_ledger.specs.Cuts.{entries_of, AreFilled, AreInTurn}
use Rattle.dk_ledger.proofs.EntryLists.{length-entries}
use Rattle.dk_groups.specs.Groups.{groups}
use Rattle.dk_groups.proofs.InTurn.{groups_filled, groups_in_turn}
use Rattle.dk_groups.proofs.Slices.{whole_slice}
use Rattle.dk_holds.specs.declared.holding.Holding.{Holding}
use Rattle.dk_holds.specs.Holds.{behind, ends, holding}
use Rattle.dk_holds.proofs.Stepping.{behind_quiet, holding_line, quiet_run}
use Rattle.dk_vcd.specs.declared.holders.Occasion.{Occasion}
use Rattle.dk_vcd.specs.Holders.{event_before, holder_before, is_told}
use Rattle.dk_vcd.specs.Laws.{is_moved, told_at}

-- ---- an event that isn't told of a mutex leaves its hold

and_false : (b : Bool) → (b && false) ≡ false
and_false true = refl
and_false false = refl

kept : (h : Holding) (b : Bool) → b ≡ false → option_or None (if b then None else Some h) ≡ Some h
kept h b is = ap (λ x. option_or None (if x then None else Some h)) is

abbrev entry : Label → Event → Entry
entry label event = record { label = label; event = Some event }

abbrev begun_as : ℕ → Bool → Option ThreadId → Option Holding
begun_as n b o = if b then option_map (λ x. record { thread = x; since = n + 1 }) o else None

-- an entry that may unlock, or lock, the mutex, and ends nobody
abbrev ends_as : ThreadId → Entry → Bool → Bool → Bool
ends_as x e unlocks locks =
    (is_of x e && unlocks)
    || (((is_of x e && false) || (is_of (main_of x) e && false) || (not (x.serial == 0) && (is_of (main_of x) e && false))) || locks)

ends_none : (x : ThreadId) (e : Entry) → ends_as x e false false ≡ false
ends_none x e = simp and_false refl

-- neither a lock nor an unlock of it, nor an end of anybody
others : (m n : ℕ) (label : Label) (event : Event) (held : Option Holding) → is_told (Occasion.Behind event) m ≡ false → behind m n (entry label event) held ≡ held
others m n label Event.Exit held is = absurd (let no : true ≡ false = is in cc)
others m n label (Event.Fault kind) held is = absurd (let no : true ≡ false = is in cc)
others m n label (Event.Delete serial) held is = absurd (let no : true ≡ false = is in cc)
others m n label (Event.Lock k) None is = ap (λ b. option_or (begun_as n b (thread_of label)) None) is
others m n label (Event.Lock k) (Some h) is =
    let e = entry label (Event.Lock k) in
    ap (λ b. option_or (begun_as n b (thread_of label)) (if ends m h.thread e then None else Some h)) is
    ∙ kept h (ends m h.thread e) (ap (ends_as h.thread e false) is ∙ ends_none h.thread e)
others m n label (Event.Unlock k) (Some h) is =
    let e = entry label (Event.Unlock k) in
    kept h (ends m h.thread e) (ap (λ b. ends_as h.thread e b false) is ∙ ends_none h.thread e)
others m n label event None is = refl
others m n label event (Some h) is = kept h (ends m h.thread (entry label event)) (ends_none h.thread (entry label event))

unmoved : (m n : ℕ) (label : Label) (event : Option Event) (held : Option Holding) → is_moved m event ≡ false → behind m n (record { label = label; event = event }) held ≡ held
unmoved m n label None held is = behind_quiet m n label held
unmoved m n label (Some event) held is = others m n label event held is

-- ---- along the groups

module _ (m t : ℕ) where
  -- inside of a line its holder is the one before it
  inside : (es : List Entry) (g : LedgerLine) (more : List Entry) → 0 < g.count → length es ≤ t → t < length es + g.count
      → holder_before (es ++ (entries_of g ++ more)) t m ≡ holding m (reverse es)
  inside es g more some low high =
      let quiets = replicate (g.count - 1) (quiet g.label) in
      let last : List Entry = record { label = g.label; event = g.event } ∷ [] in
      let d = t - length es in
      let all = length-replicate (g.count - 1) (quiet g.label) in
      let there : t ≡ length es + d = omega (arith, low) in
      let front : take t (es ++ (entries_of g ++ more)) ≡ es ++ replicate d (quiet g.label) =
      ap (λ n. take n (es ++ (entries_of g ++ more))) there ∙ take-append-add es (entries_of g ++ more) d
      ∙ ap (λ x. es ++ take d x) (append_assoc quiets last more)
      ∙ ap (λ x. es ++ x) (take-append-le d quiets (last ++ more) (omega (arith, some, high, there, all)) ∙ take-replicate d (g.count - 1) (quiet g.label) (omega (arith, some, high, there))) in
      ap (λ x. holding m (reverse x)) front ∙ quiet_run m g.label d es

  -- what is told where no later group has begun
  still : (es : List Entry) (told : Option Holding) (b : Option LedgerLine) (gs : List LedgerLine) (s : ℕ) → AreInTurn s gs → t < s → told_at es m t told b gs ≡ told
  still es told b [] s turn before = refl
  still es told b (g ∷ gs) s turn before =
      let later : nat_lt t g.start ≡ true = lt-ltb t g.start (let at = turn.0 in omega (arith, at, before)) in
      ap (λ x. if x then told else told_at es m t (if is_moved m (event_before b) then holder_before es g.start m else told) (Some g) gs) later

  chosen : (b : Bool) (x y z : Option Holding) → x ≡ z → (b ≡ false → y ≡ z) → (if b then x else y) ≡ z
  chosen true x y z first second = first
  chosen false x y z first second = second refl

  along : (es before : List Entry) (told : Option Holding) (b : Option LedgerLine) (gs : List LedgerLine) (more : List Entry) → AreFilled gs → AreInTurn (length before) gs
      → es ≡ before ++ (flat_map entries_of gs ++ more) → (is_moved m (event_before b) ≡ false → told ≡ holding m (reverse before))
      → length before ≤ t → t < length before + length (flat_map entries_of gs) → told_at es m t told b gs ≡ holder_before es t m
  along es before told b [] more filled turn parts right low high = absurd (omega (arith, low, high))
  along es before told b (g ∷ gs) more filled turn parts right low high =
      go (nat_lt t (length before + g.count)) refl
      (λ after. along es (before ++ entries_of g) new (Some g) gs more filled.1 (subst (λ n. AreInTurn n gs) (sym size) turn.1) (whole ∙ sym (append_assoc before (entries_of g) (own ++ more))) behind_right
      (omega (arith, size, after)) (let all = length-append (entries_of g) own in let count = length-entries g filled.0 in let both = size in omega (arith, both, all, count, high)))
    where
      own : List Entry
      own = flat_map entries_of gs

      new : Option Holding
      new = if is_moved m (event_before b) then holder_before es g.start m else told

      begins : g.start ≡ length before
      begins = turn.0

      size : length (before ++ entries_of g) ≡ length before + g.count
      size = length-append before (entries_of g) ∙ ap (λ n. length before + n) (length-entries g filled.0)

      whole : es ≡ before ++ (entries_of g ++ (own ++ more))
      whole = parts ∙ ap (λ x. before ++ x) (append_assoc (entries_of g) own more)

      new_right : new ≡ holding m (reverse before)
      new_right =
          chosen (is_moved m (event_before b)) (holder_before es g.start m) told (holding m (reverse before))
          (ap (λ n. holder_before es n m) begins ∙ ap (λ x. holding m (reverse (take (length before) x))) whole ∙ ap (λ x. holding m (reverse x)) (take-append_seam before (entries_of g ++ (own ++ more))))
          right

      behind_right : is_moved m g.event ≡ false → new ≡ holding m (reverse (before ++ entries_of g))
      behind_right stays = new_right ∙ sym (holding_line m g before filled.0 begins ∙ unmoved m (g.start + (g.count - 1)) g.label g.event (holding m (reverse before)) stays)

      here : told_at es m t told b (g ∷ gs) ≡ told_at es m t new (Some g) gs
      here = ap (λ x. if x then told else told_at es m t new (Some g) gs) (le-ltb t g.start (let at = begins in omega (arith, at, low)))

      go : (x : Bool) → nat_lt t (length before + g.count) ≡ x → (length before + g.count ≤ t → told_at es m t new (Some g) gs ≡ holder_before es t m)
          → told_at es m t told b (g ∷ gs) ≡ holder_before es t m
      go true within later =
          let less = ltb-true t (length before + g.count) within in
          here ∙ still es new (Some g) gs (g.start + g.count) (subst (λ n. AreInTurn (n + g.count) gs) (sym begins) turn.1) (let at = begins in omega (arith, at, less))
          ∙ new_right ∙ sym (ap (λ x. holder_before x t m) whole ∙ inside before g (own ++ more) filled.0 low less)
      go false past later = here ∙ later (ltb-false t (length before + g.count) past)

pub told_right : (m from to t : ℕ) (es : List Entry) → from ≤ t → t < to → to ≤ length es
    → told_at es m t (holder_before es from m) None (groups from to es) ≡ holder_before es t m
told_right m from to t es low high short =
    let front = take from es in
    let rest = drop (to - from) (drop from es) in
    let whole = whole_slice from to es in
    let size : length front ≡ from = length-take-le from es (omega (arith, low, high, short)) in
    let parts : es ≡ front ++ (flat_map entries_of (groups from to es) ++ rest) =
    sym (take-append-drop from es) ∙ ap (λ x. front ++ x) (sym (take-append-drop (to - from) (drop from es)) ∙ ap (λ x. x ++ rest) (sym whole)) in
    let a = ap length whole in
    let b = length-take (to - from) (drop from es) in
    let d = length-drop from es in
    along m t es front (holder_before es from m) None (groups from to es) rest (groups_filled from to es) (subst (λ n. AreInTurn n (groups from to es)) (sym size) (groups_in_turn from to es)) parts
    (λ stays. refl) (omega (arith, size, low)) (omega (arith, size, a, b, d, low, high, short))
