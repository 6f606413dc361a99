-- The changes that have been written, and those that come.
use Rattle.std.proofs.Common.{ℕ, ◌≡◌, ◌∙◌, ◌++◌, [], ◌∷◌, List, take, reverse, ap, sym, refl, append_assoc, append-nil}
use Rattle.std.specs.Prelude.{Option, Some, None, flat_map}
use Rattle.dk_outside.specs.Views.{SinkView}
use Rattle.dk_outside.specs.Written.{Appends}
use Rattle.dk_trace.specs.declared.Entry.{Entry}
use Rattle.dk_ledger.specs.declared.line.LedgerLine.{LedgerLine}
use Rattle.dk_ledger.specs.Cuts.{entries_of}
use Rattle.dk_ledger.specs.Heading.{Heading}
use Rattle.dk_ledger.specs.Readable.{Journal, IsReadable}
use Rattle.dk_groups.specs.Groups.{groups}
use Rattle.dk_groups.specs.Cutting.{Cutting, ComesNext}
use Rattle.dk_groups.proofs.InTurn.{entries_before}
use Rattle.dk_groups.proofs.Texts.{all_texts}
use Rattle.dk_holds.specs.declared.holding.Holding.{Holding}
use Rattle.dk_holds.specs.Holds.{AreHolders, holding}
use Rattle.dk_vcd.specs.Changes.{change_text, changes_text, last_of, overran_at}
use Rattle.dk_vcd.specs.Holders.{holder_before}

-- groups behind others
pub changes_both : (h : Heading) (es : List Entry) (b : Option LedgerLine) (gs ks : List LedgerLine)
    → changes_text h es b (gs ++ ks) ≡ changes_text h es b gs ++ changes_text h es (last_of b gs) ks
changes_both h es b [] ks = refl
changes_both h es b (g ∷ gs) ks =
    let own = change_text h (holder_before es g.start) (overran_at h es g) b g in
    ap (λ t. own ++ t) (changes_both h es (Some g) gs ks)
    ∙ sym (append_assoc own (changes_text h es (Some g) gs) (changes_text h es (last_of (Some g) gs) ks))

pub last_both : (b : Option LedgerLine) (gs : List LedgerLine) (g : LedgerLine) → last_of b (gs ++ g ∷ []) ≡ Some g
last_both b [] g = refl
last_both b (k ∷ gs) g = last_both (Some k) gs g

-- one group more
pub more_changes : (h : Heading) (es : List Entry) (gs : List LedgerLine) (b : Option LedgerLine) (g : LedgerLine) → b ≡ last_of None gs
    → changes_text h es None (gs ++ g ∷ []) ≡ changes_text h es None gs ++ change_text h (holder_before es g.start) (overran_at h es g) b g
more_changes h es gs b g last =
    let held = holder_before es g.start in
    let n = overran_at h es g in
    changes_both h es None gs (g ∷ [])
    ∙ ap (λ t. changes_text h es None gs ++ t) (append-nil (change_text h held n (last_of None gs) g) ∙ ap (λ o. change_text h held n o g) (sym last))

-- all changes, by those of the groups so far, that of the next, and more
pub whole_changes : (j : Journal) (gs : List LedgerLine) (b : Option LedgerLine) (g : LedgerLine) (c : Cutting) (from to : ℕ) → IsReadable j → ComesNext j gs (Some g) c
    → b ≡ last_of None gs → c.from ≡ from → c.to ≡ to
    → (more : List ℕ) × (changes_text j.heading j.entries None (groups from to j.entries)
    ≡ changes_text j.heading j.entries None gs ++ (change_text j.heading (holder_before j.entries g.start) (overran_at j.heading j.entries g) b g ++ more))
whole_changes j gs b g c from to readable comes last is_from is_to =
    let h = j.heading in
    let es = j.entries in
    all_texts (changes_text h es None) (λ ks. changes_text h es (last_of None ks)) (changes_both h es None) j gs g (change_text h (holder_before es g.start) (overran_at h es g) b g) c from to readable comes is_from is_to
    (more_changes h es gs b g last)

-- the change that is written, where the holders are those behind the entries before the group
pub change_there : (j : Journal) (gs : List LedgerLine) (b : Option LedgerLine) (g : LedgerLine) (c : Cutting) (h : Heading) (n from : ℕ) → IsReadable j → ComesNext j gs (Some g) c
    → h ≡ c.reading.kept.heading → n ≡ overran_at j.heading j.entries g → c.from ≡ from
    → change_text h (λ m. holding m (reverse (take from j.entries ++ flat_map entries_of gs))) n b g ≡ change_text j.heading (holder_before j.entries g.start) (overran_at j.heading j.entries g) b g
change_there j gs b g c h n from readable comes is_own overran is_from =
    let own : List LedgerLine → List Entry = flat_map entries_of in
    ap (λ (k : Heading). change_text k (λ m. holding m (reverse (take from j.entries ++ own gs))) n b g) (is_own ∙ comes.1)
    ∙ ap (λ (i : ℕ). change_text j.heading (λ m. holding m (reverse (take from j.entries ++ own gs))) i b g) overran
    ∙ ap (λ (i : ℕ). change_text j.heading (λ m. holding m (reverse (take i j.entries ++ own gs))) (overran_at j.heading j.entries g) b g) (sym is_from)
    ∙ ap (λ (es : List Entry). change_text j.heading (λ m. holding m (reverse es)) (overran_at j.heading j.entries g) b g) (sym (entries_before j gs g c readable comes.0))

-- the changes of these groups have been written, of which this is the last, the next comes now, and these are the holds
pub record HasWritten (j : Journal) (from : ℕ) (before next : Option LedgerLine) (c : Cutting)
    (rows : List (Option Holding)) (old new : SinkView) : Type 0 where
  pub groups : List LedgerLine
  pub comes : ComesNext j groups next c
  pub last : before ≡ last_of None groups
  pub holders : AreHolders (reverse (take from j.entries ++ flat_map entries_of groups)) rows
  pub appended : Appends old.written new.written (changes_text j.heading j.entries None groups)
  pub faults : new.faults ≡ old.faults
  pub same : new.capacity ≡ old.capacity
