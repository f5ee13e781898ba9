-- Where no name of a document comes twice, the names that were taken of it are all of its names.
use Rattle.std.proofs.Common.{◌≡◌, ℕ, List, [], ◌++◌, map, false, sym, ap, ◌∙◌}
use Rattle.std.specs.Prelude.{◌||◌}
use Rattle.typed_values.specs.Names.{repeats_after}
use Rattle.scriptreader.specs.Written.{Document}
use Rattle.scriptreader.specs.DeclaredNames.{Scope, IsScopeOf, scope_of}
use Rattle.scriptreader.specs.Faults.{has_duplicate}
use Rattle.scriptreader.proofs.BooleanTests.{or_left, or_right}
use Rattle.scriptreader.proofs.RepeatedNames.{all_three, fewer_alone, same}

mapped : (xs : List (List ℕ)) → repeats_after [] xs ≡ false → repeats_after [] (map (λ w. w) xs) ≡ false
mapped xs e = ap (λ (p : List (List ℕ)). repeats_after [] p) (same xs) ∙ e

abbrev scope_with : (a b c e f g h : List (List ℕ)) → Scope
scope_with a b c e f g h = record { lines = a; contexts = b; ephemerals = c; events = e; signals = f; maps = g; states = h }

pub scope_is : (d : Document) (k : Scope) → IsScopeOf d k → has_duplicate d ≡ false → k ≡ scope_of d
unfolding has_duplicate
scope_is d k is none =
    let r1 = repeats_after [] (d.lines ++ (d.contexts ++ d.ephemerals)) in
    let n1 : repeats_after [] d.lines || (repeats_after d.lines d.contexts || repeats_after (d.lines ++ d.contexts) d.ephemerals) ≡ false = sym (all_three d.lines d.contexts d.ephemerals) ∙ or_left _ _ none in
    let n2 = or_right _ _ none in
    let n3 = or_right _ _ n2 in
    let n4 = or_right _ _ n3 in
    let n5 = or_right _ _ n4 in
    let m1 = or_right _ _ n1 in
    let lines = is.lines (mapped d.lines (or_left _ _ n1)) ∙ same d.lines in
    let contexts = is.contexts (mapped d.contexts (fewer_alone d.lines d.contexts (or_left _ _ m1))) ∙ same d.contexts in
    let ephemerals = is.ephemerals (mapped d.ephemerals (fewer_alone (d.lines ++ d.contexts) d.ephemerals (or_right _ _ m1))) ∙ same d.ephemerals in
    let events = is.events (or_left _ _ n2) in
    let signals = is.signals (or_left _ _ n3) in
    let maps = is.maps (or_left _ _ n4) in
    let states = is.states (or_left _ _ n5) in
    ap (λ (x : List (List ℕ)). scope_with x k.contexts k.ephemerals k.events k.signals k.maps k.states) lines
    ∙ (ap (λ (x : List (List ℕ)). scope_with d.lines x k.ephemerals k.events k.signals k.maps k.states) contexts
    ∙ (ap (λ (x : List (List ℕ)). scope_with d.lines d.contexts x k.events k.signals k.maps k.states) ephemerals
    ∙ (ap (λ (x : List (List ℕ)). scope_with d.lines d.contexts d.ephemerals x k.signals k.maps k.states) events
    ∙ (ap (λ (x : List (List ℕ)). scope_with d.lines d.contexts d.ephemerals (map (λ e. e.name) d.events) x k.maps k.states) signals
    ∙ (ap (λ (x : List (List ℕ)). scope_with d.lines d.contexts d.ephemerals (map (λ e. e.name) d.events) (map (λ s. s.name) d.signals) x k.states) maps
    ∙ ap (λ (x : List (List ℕ)). scope_with d.lines d.contexts d.ephemerals (map (λ e. e.name) d.events) (map (λ s. s.name) d.signals) (map (λ m. m.name) d.maps) x) states)))))
