-- For each call of an opening there is an opening of it alone.
use Rattle.std.proofs.Common.{◌≡◌, ◌∙◌, ℕ, Bool, true, false, List, [], ◌∷◌, length, Option, Some, None, refl, sym, ap, subst, ◌==◌, Contains, if◌then◌else◌}
use Rattle.mg_merge.proofs.Words.{Agent, AreDistinct, AreOpenedLines, IsLineOf, IsOpening, Opened, Script, World, at_one, eq-eqb, eqb-true, none_is_some}
use Rattle.mg_merge.proofs.Words.{only_here, only_one, opened, the_some, where_true}
use Rattle.mg_alike.proofs.Words.{CallsOpenAlone}
use Rattle.mg_alike.proofs.Events.Settling.{found_below}
use Rattle.mg_alike.proofs.Shared.Below.{any_below, any_there}

module _ (script : Script) (calls : List Opened) (one : Opened) (start : World) (among : Contains calls one) (opens : IsOpening script calls start) where
  abbrev holder : ℕ → Option ℕ
  holder l = if any_below (λ i. one.lines i == l) (length script.lines) then Some one.call else None

  abbrev lone : World
  lone = record start {
    gateway = record start.gateway { holder = λ l. if any_below (λ i. one.lines i == l) (length script.lines) then Some one.call else None };
    agent = λ c. if c == one.call then Some (opened script one.call one.lines) else None;
  }

  distinct : AreDistinct script (one ∷ [])
  distinct = record {
    calls_differ = λ p q first second same. sym (only_one one p first) ∙ only_one one q second;
    lines_differ = λ p q first second i j within also same. (
      sym (only_one one p first) ∙ only_one one q second,
      (opens.distinct.lines_differ one one among among i j within also
          (ap (λ (o : Opened). o.lines i) (only_one one p first) ∙ same ∙ sym (ap (λ (o : Opened). o.lines j) (only_one one q second)))).1,
    );
  }

  is_line : (l call : ℕ) → holder l ≡ Some call → IsLineOf script (one ∷ []) l call
  is_line l call = go (any_below (λ i. one.lines i == l) (length script.lines)) refl
    where
      go : (test : Bool) → any_below (λ i. one.lines i == l) (length script.lines) ≡ test → (if test then Some one.call else None) ≡ Some call → IsLineOf script (one ∷ []) l call
      go true e is =
          let i = found_below (λ i. one.lines i == l) (length script.lines) e in
          record { one = one; i = i.0; among = only_here one; is_call = the_some one.call call is; within = i.1; is_line = eqb-true (one.lines i.0) l i.2 }
      go false e is = absurd (none_is_some call is)

  holds : (l call : ℕ) → IsLineOf script (one ∷ []) l call → holder l ≡ Some call
  holds l call x =
      let same = only_one one x.one x.among in
      where_true (any_below (λ i. one.lines i == l) (length script.lines)) (Some one.call) None
      (any_there (λ i. one.lines i == l) (length script.lines) x.i x.within (eq-eqb (one.lines x.i) l (ap (λ (o : Opened). o.lines x.i) same ∙ x.is_line)))
      ∙ ap (λ (n : ℕ). Some n) (ap (λ (o : Opened). o.call) same ∙ x.is_call)

  was_held : (l call : ℕ) → holder l ≡ Some call → start.gateway.holder l ≡ Some call
  was_held l call held =
      let x = is_line l call held in
      let same = only_one one x.one x.among in
      (opens.lines.held l call).1 (record {
        one = x.one;
        i = x.i;
        among = subst (Contains calls) same among;
        is_call = x.is_call;
        within = x.within;
        is_line = x.is_line;
      })

  lines : AreOpenedLines script (one ∷ []) (record start.gateway { holder = λ l. if any_below (λ i. one.lines i == l) (length script.lines) then Some one.call else None })
  lines = record {
    held = λ l call. (is_line l call, holds l call);
    stand = λ l call held. opens.lines.stand l call (was_held l call held);
    armed = λ l call held. opens.lines.armed l call (was_held l call held);
    others_null = opens.lines.others_null;
  }

  only_agent : (call : ℕ) (a : Agent) (test : Bool) → (call == one.call) ≡ test → (if test then Some (opened script one.call one.lines) else None) ≡ Some a
      → (p : Opened) × Contains (one ∷ []) p × (p.call ≡ call)
  only_agent call a true e is = (one, only_here one, sym (eqb-true call one.call e))
  only_agent call a false e is = absurd (none_is_some a is)

  pub opens_alone : IsOpening script (one ∷ []) (record start {
    gateway = record start.gateway { holder = λ l. if any_below (λ i. one.lines i == l) (length script.lines) then Some one.call else None };
    agent = λ c. if c == one.call then Some (opened script one.call one.lines) else None;
  })
  opens_alone = record {
    distinct = distinct;
    lines = lines;
    gateway = assumption;
    agents = record {
      opened = λ p there.
          subst (λ (o : Opened). (if o.call == one.call then Some (opened script one.call one.lines) else None) ≡ Some (opened script o.call o.lines)) (only_one one p there)
          (at_one one.call (Some (opened script one.call one.lines)) None);
      no_other = λ call a is. only_agent call a (call == one.call) refl is;
    };
    messages = assumption;
  }

pub calls_open_alone : CallsOpenAlone
calls_open_alone script calls one start among opens = (
  record start {
    gateway = record start.gateway { holder = λ l. if any_below (λ i. one.lines i == l) (length script.lines) then Some one.call else None };
    agent = λ c. if c == one.call then Some (opened script one.call one.lines) else None;
  },
  (opens_alone script calls one start among opens, refl),
)
