-- One command of a state more has its fate: the request is gone through beside it.
use Rattle.std.proofs.Common.{◌≡◌, ◌∙◌, ◌↔◌, ◌++◌, ◌∷◌, [], Bool, true, false, IsTrue, List, Option, Some, None, refl, sym, ap, subst, append_assoc, append-nil, rules}
use Rattle.mg_model.specs.declared.commands.Command.{Command}
use Rattle.mg_model.specs.Script.{Script}
use Rattle.mg_model.specs.Configuration.{Configuration}
use Rattle.mg_model.specs.Effects.{is_legal}
use Rattle.mg_model.specs.Request.{Names, built, names_after, uses_known}
use Rattle.call_ways.specs.declared.fates.Fate.{Fate}
use Rattle.call_ways.specs.Fates.{fates}
use Rattle.call_ways.specs.Sending.{IsNextAfter, ahead, config_after, fate_of, reached_after}

-- the first command of a request uses known names alone
first_known : (names : Names) (commands : List Command) (first : Command) (rest : List Command) → built names commands ≡ first ∷ rest
    → uses_known names first ≡ true
first_known names [] first rest is = cc
first_known names (command ∷ more) first rest is = by_test (uses_known names command) refl (first_known names more first rest)
  where
    by_test : (known : Bool) → uses_known names command ≡ known → (built names more ≡ first ∷ rest → uses_known names first ≡ true)
        → uses_known names first ≡ true
    by_test true test among =
        let here : command ∷ built (names_after names command) more ≡ first ∷ rest = rw test at is in
        let same : command ≡ first = cc in
        subst (λ (x : Command). uses_known names x ≡ true) same test
    by_test false test among = among (rw test at is)

-- the names that are known behind a command, which the request has or hasn't
abbrev names_behind : Bool → Names → Command → Names
names_behind true names command = names_after names command
names_behind false names command = names

one_fate : (script : Script) (c : Configuration) (names : Names) (command : Command) (more : List Command) (known reached legal : Bool)
    → uses_known names command ≡ known → is_legal c command ≡ legal
    → fates script c names reached (command ∷ more)
    ≡ fate_of known reached legal ∷ fates script (config_after script c command (fate_of known reached legal)) (names_behind known names command)
    (reached_after reached (fate_of known reached legal)) more
one_fate script c names command more false reached legal known_is legal_is = rw known_is refl
one_fate script c names command more true false legal known_is legal_is = rw known_is refl
one_fate script c names command more true true false known_is legal_is = rw (known_is, legal_is) refl
one_fate script c names command more true true true known_is legal_is = rw (known_is, legal_is) refl

-- what stands ahead of others is the first of a request that has a first
first_ahead : (next : Option Command) (rest : List Command) (first : Command) (more : List Command) → ahead next rest ≡ first ∷ more
    → (next ≡ Some first) × (rest ≡ more)
first_ahead None rest first more is = cc
first_ahead (Some other) rest first more is =
    let same : other ≡ first = cc in
    let behind : rest ≡ more = cc in
    (ap Some same, behind)

taken : (known : Bool) (next : Option Command) (rest : List Command) (command : Command) (names : Names) (more : List Command)
    → uses_known names command ≡ known → ahead next rest ≡ built names (command ∷ more) → (reached legal : Bool) (new : Option Command) (left : List Command)
    → IsNextAfter next rest (fate_of known reached legal) new left → ahead new left ≡ built (names_behind known names command) more
taken false next rest command names more known_is is reached legal new left (same, kept) =
    let all : ahead next rest ≡ built names more = rw known_is at is in
    rw (same, kept) all
taken true next rest command names more known_is is false legal new left kept =
    let all : ahead next rest ≡ command ∷ built (names_after names command) more = rw known_is at is in
    sym kept ∙ (first_ahead next rest command (built (names_after names command) more) all).1
taken true next rest command names more known_is is true false new left kept =
    let all : ahead next rest ≡ command ∷ built (names_after names command) more = rw known_is at is in
    sym kept ∙ (first_ahead next rest command (built (names_after names command) more) all).1
taken true next rest command names more known_is is true true new left kept =
    let all : ahead next rest ≡ command ∷ built (names_after names command) more = rw known_is at is in
    sym kept ∙ (first_ahead next rest command (built (names_after names command) more) all).1

-- the request has a command exactly where it comes next
is_kept : (known kept : Bool) (next : Option Command) (rest : List Command) (command : Command) (names : Names) (more : List Command)
    → uses_known names command ≡ known → ahead next rest ≡ built names (command ∷ more) → IsTrue kept ↔ (next ≡ Some command) → kept ≡ known
is_kept true kept next rest command names more known_is is told =
    let all : ahead next rest ≡ command ∷ built (names_after names command) more = rw known_is at is in
    told.1 (first_ahead next rest command (built (names_after names command) more) all).0
is_kept false false next rest command names more known_is is told = refl
is_kept false true next rest command names more known_is is told =
    let all : ahead next rest ≡ built names more = rw known_is at is in
    let here : next ≡ Some command = told.0 refl in
    let first : command ∷ rest ≡ built names more = subst (λ (n : Option Command). ahead n rest ≡ built names more) here all in
    let bad : false ≡ true = sym known_is ∙ first_known names more command rest (sym first) in
    absurd (search rules)

-- so many have their fates, and these are left
pub record AreTold (script : Script) (all told : List Fate) (c : Configuration) (reached : Bool) (next : Option Command)
    (rest left : List Command) : Type 0 where
  pub names : Names
  pub fates_are : told ++ fates script c names reached left ≡ all
  pub request_is : ahead next rest ≡ built names left

pub one_told : (script : Script) (all told told_more : List Fate) (c d : Configuration) (reached reached_too kept legal : Bool) (next new : Option Command)
    (rest behind : List Command) (command : Command) (left : List Command) (it : Fate)
    → AreTold script all told c reached next rest (command ∷ left) → IsTrue kept ↔ (next ≡ Some command) → is_legal c command ≡ legal
    → it ≡ fate_of kept reached legal → IsNextAfter next rest it new behind → d ≡ config_after script c command it → reached_too ≡ reached_after reached it
    → told_more ≡ told ++ it ∷ [] → AreTold script all told_more d reached_too new behind left
one_told script all told told_more c d reached reached_too kept legal next new rest behind command left it
    so_far is_next is_legal_so it_is goes_on d_is reached_is more_is =
    let names = so_far.names in
    let known : Bool = uses_known names command in
    let same : kept ≡ known = is_kept known kept next rest command names left refl so_far.request_is is_next in
    let fate_is : it ≡ fate_of known reached legal = it_is ∙ ap (λ (b : Bool). fate_of b reached legal) same in
    let config : d ≡ config_after script c command (fate_of known reached legal) = d_is ∙ ap (config_after script c command) fate_is in
    let comes : reached_too ≡ reached_after reached (fate_of known reached legal) = reached_is ∙ ap (reached_after reached) fate_is in
    let one = one_fate script c names command left known reached legal refl is_legal_so in
    record {
      names = names_behind known names command;
      fates_are =
          rw (more_is, fate_is, config, comes) (append_assoc told (fate_of known reached legal ∷ []) _
          ∙ ap (λ (fs : List Fate). told ++ fs) (sym one) ∙ so_far.fates_are);
      request_is =
          taken known next rest command names left refl so_far.request_is reached legal new behind
          (subst (λ (f : Fate). IsNextAfter next rest f new behind) fate_is goes_on);
    }

pub all_told : (script : Script) (all told : List Fate) (c : Configuration) (reached : Bool) (next : Option Command) (rest : List Command)
    → AreTold script all told c reached next rest [] → told ≡ all
all_told script all told c reached next rest so_far = sym (append-nil told) ∙ so_far.fates_are
