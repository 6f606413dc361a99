use Rattle.dk_dispatch.proofs.Names.{◌≡◌, ◌∙◌, ℕ, Bool, List, sym, subst, refl, Job, Table, Book, Lockable, Cells, Slack, Roster, Tables, IsSound, start-sound}
use Rattle.dk_dispatch.proofs.tables.AllTables.at_start.Goals as goal

same-tables : (t t' : Table) (b b' : Book) (m m' : List Lockable) (d d' : Cells) (s s' : Slack) (j j' : Roster) (k k' : List Job) (r r' : List ℕ) (a a' : List Bool)
    → t ≡ t' → b ≡ b' → m ≡ m' → d ≡ d' → s ≡ s' → j ≡ j' → k ≡ k' → r ≡ r' → a ≡ a'
    → ◌≡◌ {A = Tables}
    (record { threads = t; loans = b; mutexes = m; demand = d; slack = s; jobs = j; kernel = k; releases = r; rights = a })
    (record { threads = t'; loans = b'; mutexes = m'; demand = d'; slack = s'; jobs = j'; kernel = k'; releases = r'; rights = a' })
same-tables t t' b b' m m' d d' s s' j j' k k' r r' a a' e1 e2 e3 e4 e5 e6 e7 e8 e9 = rw (e1, e2, e3, e4, e5, e6, e7, e8, e9) refl

pub returns : goal.returns
returns g c =
    same-tables _ _ _ _ _ _ _ _ _ _ _ _ _ _ _ _ _ _
    c.requires.threads c.at_start.ensures c.at_start-2.ensures c.first_cells.ensures c.requires.slack c.requires.jobs
    (c.new.ensures ∙ c.requires.kernel) c.releases_of.ensures c.rights_of.ensures

pub invariant_of-result : goal.invariant_of-result
invariant_of-result g c =
    subst IsSound (sym (same-tables _ _ _ _ _ _ _ _ _ _ _ _ _ _ _ _ _ _
    c.requires.threads c.at_start.ensures c.at_start-2.ensures c.first_cells.ensures c.requires.slack c.requires.jobs
    (c.new.ensures ∙ c.requires.kernel) c.releases_of.ensures c.rights_of.ensures))
    (start-sound c.args.config.now c.requires.checked c.requires.limits)
