-- Whose an ephemeral is after a request: the call's exactly where a name of the call stands for it.
use Rattle.std.proofs.Common.{◌≡◌, ◌∙◌, ℕ, Bool, true, false, Option, Some, None, refl, sym, ap, inl, inr, ◌||◌, ◌&&◌, ◌⊎◌, not, if◌then◌else◌}
use Rattle.mg_merge.proofs.Words.{Agent, Configuration, Eph, Gateway, Request, Running, Script, and_from, creator_after, eq-eqb, exists, false_not_true}
use Rattle.mg_merge.proofs.Words.{none_is_some, or_left, or_right}
use Rattle.mg_safety.proofs.Events.Others.{is_call_of}
use Rattle.mg_safety.proofs.Invariant.Shown.{naming, ChangesOwned, IsAccounted, Shown, owned_at}
use Rattle.mg_safety.proofs.Invariant.Sound.{is_call, owner_of}

module _ (script : Script) (g : Gateway) (request : Request) (a e : Agent) (call : ℕ) (of : request.call ≡ call) (numbered : a.call ≡ call) (end : Running) (c : Configuration)
    (shown : Shown script (owned_at (owner_of g a.call) end.board) (naming e) end.board c) (changes : ChangesOwned (owner_of g a.call) g.board end.board)
    (before : IsAccounted g.board) (after : IsAccounted end.board) where
  pub named_of : (x : ℕ) → creator_after g request end x ≡ Some call → (k : ℕ) × (e.ephemerals k ≡ Some x)
  named_of x made = go (exists end.board (Eph x)) (exists g.board (Eph x)) refl refl made
    where
      go : (stands stood : Bool) → exists end.board (Eph x) ≡ stands → exists g.board (Eph x) ≡ stood
          → (if stands then (if stood then g.creator x else Some request.call) else None) ≡ Some call → (k : ℕ) × (e.ephemerals k ≡ Some x)
      go false stood is was made = absurd (none_is_some call made)
      go true true is was made =
          shown.ephemeral_named x (or_left (is_call (g.creator x) a.call) (end.board.used_ephemeral x && not (g.board.used_ephemeral x))
          (ap (λ (o : Option ℕ). is_call o a.call) (made ∙ ap (λ (n : ℕ). Some n) (sym numbered)) ∙ eq-eqb a.call a.call refl)) is
      go true false is was made =
          shown.ephemeral_named x (or_right (is_call (g.creator x) a.call) (end.board.used_ephemeral x && not (g.board.used_ephemeral x))
          (and_from (end.board.used_ephemeral x) (not (g.board.used_ephemeral x)) (after.ephemerals x is) (new (changes.ephemeral x is)))) is
        where
          new : (exists g.board (Eph x) ≡ true) ⊎ (g.board.used_ephemeral x ≡ false) → not (g.board.used_ephemeral x) ≡ true
          new (inl there) = absurd (false_not_true (sym was ∙ there))
          new (inr free) = ap not free

  pub created_of : (k x : ℕ) → e.ephemerals k ≡ Some x → creator_after g request end x ≡ Some call
  created_of k x named = go (exists end.board (Eph x)) (exists g.board (Eph x)) refl refl (shown.ephemeral_stands k x named)
    where
      was_its : (created now used : Bool) → (created || (now && not used)) ≡ true → used ≡ true → created ≡ true
      was_its true now used own given = refl
      was_its false true false own given = absurd (false_not_true given)
      was_its _ _ _ own given = absurd (false_not_true own)

      go : (stands stood : Bool) → exists end.board (Eph x) ≡ stands → exists g.board (Eph x) ≡ stood → exists end.board (Eph x) ≡ true
          → (if stands then (if stood then g.creator x else Some request.call) else None) ≡ Some call
      go false stood is was there = absurd (false_not_true (sym is ∙ there))
      go true true is was there =
          is_call_of (g.creator x) a.call (was_its (is_call (g.creator x) a.call) (end.board.used_ephemeral x) (g.board.used_ephemeral x)
          (shown.ephemeral_owned k x named) (before.ephemerals x was)) ∙ ap (λ (n : ℕ). Some n) numbered
      go true false is was there = ap (λ (n : ℕ). Some n) of
