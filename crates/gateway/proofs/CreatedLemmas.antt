-- The numbers of what a call created: sets of them, and what is noted of a call.
use Rattle.std.proofs.Common.{◌≡◌, ◌∙◌, ℕ, true, Option, Some, None, option_map, Result, OnOk, List, [], ◌∷◌, refl, sym, ap}
use Rattle.std.specs.Prelude.{◌==◌, ◌||◌}
use Rattle.std.specs.declared.alloc.AllocError.{AllocError}
use Rattle.mg_model.specs.Items.{Done}
use Rattle.gateway.specs.Calls.{OpenCall, open_entry, with_call, creating}
use Rattle.mg_model.specs.Members.{is_among}
use Rattle.gateway.specs.Creators.{any_created}
use Rattle.gateway.specs.Execution.{HasNoted, HasCreated}

-- ---- of a call that isn't open nothing is noted

pub noted_nowhere : (entry : Option OpenCall) (results : List Done) (result : Result (Unit {0}) AllocError) → entry ≡ None → HasNoted entry entry results result
noted_nowhere None results result e = record { created = []; entry = refl; kept = λ c k h. absurd (none_is_not c h); noted = λ c h. absurd (none_is_not c h) }
  where
    none_is_not : (c : OpenCall) → None ≡ Some c → ⊥
    none_is_not c h = cc
noted_nowhere (Some c) results result e = cc

pub created_nowhere : (old new : ℕ → Option (Option OpenCall)) (call : ℕ) (results : List Done) (result : Result (Unit {0}) AllocError)
    → ((n : ℕ) → new n ≡ with_call old call (creating []) n) → old call ≡ None → HasCreated old new call results result
created_nowhere old new call results result same none = record {
  created = [];
  entries = same;
  kept = λ c k h. absurd (none_is_not c (sym (ap open_entry none) ∙ h));
  noted = λ c h. absurd (none_is_not c (sym (ap open_entry none) ∙ h));
}
  where
    none_is_not : (c : OpenCall) → None ≡ Some c → ⊥
    none_is_not c h = cc

pub created_there : (old new : ℕ → Option (Option OpenCall)) (call : ℕ) (before after : Option OpenCall) (results : List Done) (result : Result (Unit {0}) AllocError)
    → (noted : HasNoted before after results result) → old call ≡ Some before
    → ((n : ℕ) → new n ≡ with_call old call (creating noted.created) n) → HasCreated old new call results result
created_there old new call before after results result noted is same = record {
  created = noted.created;
  entries = same;
  kept = λ c k h. noted.kept c k (sym (ap open_entry is) ∙ h);
  noted = λ c h. noted.noted c (sym (ap open_entry is) ∙ h);
}

pub noted_there : (entry : Option OpenCall) (c new : OpenCall) (results : List Done) (result : Result (Unit {0}) AllocError) → entry ≡ Some c
    → new ≡ creating new.created c → ((k : ℕ) → is_among c.created k ≡ true → is_among new.created k ≡ true)
    → OnOk result ((k : ℕ) → any_created results k ≡ true → is_among new.created k ≡ true) → HasNoted entry (Some new) results result
noted_there entry c new results result is rest kept noted = record {
  created = new.created;
  entry = ap Some rest ∙ ap (option_map (creating new.created)) (sym is);
  kept = λ d k h among. kept k (ap (λ (x : OpenCall). is_among x.created k) (same c d (sym is ∙ h)) ∙ among);
  noted = λ d h. noted;
}
  where
    same : (a b : OpenCall) → Some a ≡ Some b → a ≡ b
    same a b e = cc
