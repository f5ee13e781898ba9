-- A call that begins on the lines of another: what the gateway is then, and that it stays tied.
use Rattle.std.proofs.Common.{◌≡◌, ◌∙◌, ℕ, ◌==◌, ◌&&◌, ◌||◌, Bool, true, false, not, if◌then◌else◌, Option, Some, None, is_some, refl, sym, ap, subst, rules, true≢false}
use Rattle.std.proofs.lemmas.Bool.{eqb-true}
use Rattle.mg_model.specs.Gateway.{CallLink, begun, handed_over}
use Rattle.mg_model.proofs.Cases.{same_turned, same_itself}
use Rattle.contexts.specs.BoardValue.{names_line}
use Rattle.gateway.specs.Beginnings.{OpenBegun}
use Rattle.gateway.specs.Calls.{OpenCall, call_entry, call_in, open_entry, is_retired_entry, line_entry, link_of, holder_of, new_call, without_call}
use Rattle.gateway.specs.Creators.{creator_at}
use Rattle.gateway.specs.GatewayValue.{GatewayValue, AreTied, IsCreatedBy, is_held_by, has_line_among, holder_in, gateway_of, is_open}
use Rattle.gateway.proofs.OpenTieLemmas.{still_listed}
use Rattle.gateway.proofs.TieLemmas.{Entry}

-- the entries after the old call was retired and the new one has the lines
abbrev pub entries_begun : (ℕ → Entry) → (old new : ℕ) → OpenCall → ℕ → Entry
entries_begun entries old new state n = if n == new then Some (Some state) else if n == old then Some None else entries n

-- where a new call has the lines of an old one
pub record IsHandedOver (w after : GatewayValue) (old new : ℕ) : Type 0 where
  pub before : OpenCall
  pub was : call_entry w.calls old ≡ Some (Some before)
  pub free : call_entry w.calls new ≡ None
  pub state : OpenCall
  pub state_is : state ≡ new_call w.association before.lines
  pub holders : (l : ℕ) → line_entry after.holders l ≡ (if names_line before.lines l && is_some (line_entry w.holders l) then Some (Some new) else line_entry w.holders l)
  pub calls : (n : ℕ) → call_entry after.calls n ≡ entries_begun (call_entry w.calls) old new state n
  pub rest : after ≡ record w { holders = after.holders; calls = after.calls }

-- ---- the entries, step by step

module _ (entries first : ℕ → Entry) (old new : ℕ) (opened : is_some (open_entry (entries old)) ≡ true) (free : is_some (entries new) ≡ false)
    (reserved : (n : ℕ) → first n ≡ (if n == new then Some None else entries n)) where
  open_some : (e : Entry) → is_some (open_entry e) ≡ true → is_some e ≡ true
  open_some None h = h
  open_some (Some entry) h = refl

  still_there : first old ≡ entries old
  still_there = reserved old ∙ by_test (old == new) refl
    where
      by_test : (b : Bool) → (old == new) ≡ b → (if b then Some None else entries old) ≡ entries old
      by_test true e = absurd (true≢false (sym (open_some (entries old) opened) ∙ ap (λ (n : ℕ). is_some (entries n)) (eqb-true old new e) ∙ free))
      by_test false e = refl

  pub not_gone : None ≡ open_entry (first old) → ⊥
  not_gone none = true≢false (sym opened ∙ ap (λ (e : Entry). is_some (open_entry e)) (sym still_there) ∙ ap is_some (sym none))

  pub was_there : (c : OpenCall) → Some c ≡ open_entry (first old) → entries old ≡ Some (Some c)
  was_there c found = by (entries old) (found ∙ ap open_entry still_there)
    where
      by : (e : Entry) → Some c ≡ open_entry e → e ≡ Some (Some c)
      by None h = cc
      by (Some None) h = cc
      by (Some (Some d)) h = ap Some (sym h)

module _ (entries first second third : ℕ → Entry) (old new : ℕ) (before state : OpenCall) (was : entries old ≡ Some (Some before)) (free : entries new ≡ None)
    (reserved : (n : ℕ) → first n ≡ (if n == new then Some None else entries n))
    (retired : (n : ℕ) → second n ≡ without_call first old n)
    (filled : (n : ℕ) → third n ≡ (if (n == new) && is_some (second n) then Some (Some state) else second n)) where
  some_is_not : {X : Type 0} (x : X) → Some x ≡ None → ⊥
  some_is_not x e = cc

  differ : (same : Bool) → (old == new) ≡ same → same ≡ false
  differ false e = refl
  differ true e = absurd (some_is_not (Some before) (sym was ∙ ap entries (eqb-true old new e) ∙ free))

  pub apart : (old == new) ≡ false
  apart = differ (old == new) refl

  old_first : first old ≡ Some (Some before)
  old_first = reserved old ∙ rw apart was

  new_first : first new ≡ Some None
  new_first = reserved new ∙ rw (same_itself new) refl

  new_second : second new ≡ Some None
  new_second = retired new ∙ rw (same_turned new old, apart) new_first

  second_is : (n : ℕ) (is_old is_new : Bool) → (n == old) ≡ is_old → (n == new) ≡ is_new → is_new ≡ false → second n ≡ (if is_old then Some None else entries n)
  second_is n true is_new e f g = retired n ∙ rw (e, old_first) refl
  second_is n false true e f g = absurd (true≢false g)
  second_is n false false e f g = retired n ∙ rw e refl ∙ reserved n ∙ rw f refl

  pub handed : (n : ℕ) → third n ≡ entries_begun entries old new state n
  handed n = by_test (n == new) refl
    where
      by_test : (b : Bool) → (n == new) ≡ b → third n ≡ (if b then Some (Some state) else if n == old then Some None else entries n)
      by_test true e = let there : second n ≡ Some None = ap second (eqb-true n new e) ∙ new_second in filled n ∙ rw (e, there) refl
      by_test false e = filled n ∙ rw e refl ∙ second_is n (n == old) (n == new) refl refl e

-- ---- the gateway after

module _ (w after : GatewayValue) (old new : ℕ) (tied : AreTied w) (done : IsHandedOver w after old new) where
  no_entry : (n : ℕ) → n ≡ new → call_entry w.calls n ≡ None
  no_entry n is = ap (call_entry w.calls) is ∙ done.free

  two : (same : Bool) → (old == new) ≡ same → same ≡ false
  two false e = refl
  two true e = let bad : Some (Some done.before) ≡ None = sym done.was ∙ no_entry old (eqb-true old new e) in absurd (none_not (Some done.before) bad)
    where
      none_not : (x : Option OpenCall) → Some x ≡ None → ⊥
      none_not x e = cc

  not_one : (n : ℕ) → (n == new) ≡ true → (n == old) ≡ true → ⊥
  not_one n e f = true≢false (sym (same_itself old) ∙ ap (λ (m : ℕ). old == m) (sym (eqb-true n old f) ∙ eqb-true n new e) ∙ two (old == new) refl)

  had : (l : ℕ) → is_held_by (holder_in w l) old ≡ names_line done.before.lines l
  had l = tied.holders l old ∙ ap (λ (e : Entry). has_line_among (open_entry e) l) done.was

  had_not : (l : ℕ) → is_held_by (holder_in w l) new ≡ false
  had_not l = tied.holders l new ∙ ap (λ (e : Entry). has_line_among (open_entry e) l) done.free

  holder_after : (entry : Option (Option ℕ)) (among : Bool) → is_held_by (holder_of entry) old ≡ among
      → holder_of (if among && is_some entry then Some (Some new) else entry) ≡ handed_over old new (holder_of entry)
  holder_after None true e = absurd (search rules)
  holder_after None false e = refl
  holder_after (Some None) true e = absurd (search rules)
  holder_after (Some None) false e = refl
  holder_after (Some (Some holder)) true e = rw e refl
  holder_after (Some (Some holder)) false e = rw e refl

  pub holders_after : (l : ℕ) → holder_in after l ≡ handed_over old new (holder_in w l)
  holders_after l = ap holder_of (done.holders l) ∙ holder_after (line_entry w.holders l) (names_line done.before.lines l) (had l)

  abbrev nothing_kept : CallLink
  nothing_kept = record { last = None; notes = 0 }

  link_after : (n : ℕ) (is_new is_old : Bool) → link_of (open_entry (if is_new then Some (Some done.state) else if is_old then Some None else call_entry w.calls n))
      ≡ (if is_old then nothing_kept else if is_new then nothing_kept else link_of (call_in w.calls n))
  link_after n true true = ap (λ (c : OpenCall). link_of (Some c)) done.state_is
  link_after n true false = ap (λ (c : OpenCall). link_of (Some c)) done.state_is
  link_after n false true = refl
  link_after n false false = refl

  retired_after : (n : ℕ) (is_new is_old : Bool) → (n == new) ≡ is_new → (n == old) ≡ is_old
      → is_retired_entry (if is_new then Some (Some done.state) else if is_old then Some None else call_entry w.calls n)
      ≡ (if is_old then true else is_retired_entry (call_entry w.calls n))
  retired_after n true true e f = absurd (not_one n e f)
  retired_after n true false e f = sym (ap is_retired_entry (no_entry n (eqb-true n new e)))
  retired_after n false true e f = refl
  retired_after n false false e f = refl

  pub begun_is : gateway_of after ≡ begun (gateway_of w) old new
  unfolding gateway_of
  begun_is =
      let shown : gateway_of after ≡ gateway_of (record w { holders = after.holders; calls = after.calls }) = ap gateway_of done.rest in
      shown ∙ (λ i. record (gateway_of w) {
        holder = λ l. holders_after l i;
        link = λ n. (ap (λ (e : Entry). link_of (open_entry e)) (done.calls n) ∙ link_after n (n == new) (n == old)) i;
        retired = λ n. (ap is_retired_entry (done.calls n) ∙ retired_after n (n == new) (n == old) refl refl) i;
      })

  open_step : (n : ℕ) (is_new is_old : Bool) → is_some (open_entry (if is_new then Some (Some done.state) else if is_old then Some None else call_entry w.calls n))
      ≡ (is_new || (not is_old && is_some (call_in w.calls n)))
  open_step n true is_old = refl
  open_step n false true = refl
  open_step n false false = refl

  pub open_begun : OpenBegun w old new after
  unfolding is_open
  open_begun n = ap (λ (e : Entry). is_some (open_entry e)) (done.calls n) ∙ open_step n (n == new) (n == old)

  -- ---- it stays tied

  links_tied : (n : ℕ) (c : OpenCall) → call_in after.calls n ≡ Some c → c.association ≡ w.association
  links_tied n c e = by_test (n == new) (n == old) (sym (ap open_entry (done.calls n)) ∙ e)
    where
      some_same : (a b : OpenCall) → Some a ≡ Some b → a ≡ b
      some_same a b e = cc

      none_not : None ≡ Some c → ⊥
      none_not e = cc

      by_test : (a b : Bool) → open_entry (if a then Some (Some done.state) else if b then Some None else call_entry w.calls n) ≡ Some c → c.association ≡ w.association
      by_test true b h = ap (λ (x : OpenCall). x.association) (sym (some_same done.state c h) ∙ done.state_is)
      by_test false true h = absurd (none_not h)
      by_test false false h = tied.links n c h

  to_new : (holder n : ℕ) (was_old : Bool) → (holder == old) ≡ was_old → is_held_by (Some holder) new ≡ false → ((if was_old then new else holder) == new) ≡ was_old
  to_new holder n true e f = same_itself new
  to_new holder n false e f = f

  not_old : (holder : ℕ) (was_old : Bool) → (holder == old) ≡ was_old → ((if was_old then new else holder) == old) ≡ false
  not_old holder true e = same_turned new old ∙ two (old == new) refl
  not_old holder false e = e

  as_before : (holder n : ℕ) (was_old : Bool) → (holder == old) ≡ was_old → (n == new) ≡ false → (n == old) ≡ false → ((if was_old then new else holder) == n) ≡ (holder == n)
  as_before holder n true e f g = same_turned new n ∙ f ∙ sym (ap (λ (m : ℕ). m == n) (eqb-true holder old e) ∙ same_turned old n ∙ g)
  as_before holder n false e f g = refl

  held : (l n : ℕ) (o : Option ℕ) → o ≡ holder_in w l → (is_new is_old : Bool) → (n == new) ≡ is_new → (n == old) ≡ is_old
      → is_held_by (handed_over old new o) n ≡ has_line_among (open_entry (if is_new then Some (Some done.state) else if is_old then Some None else call_entry w.calls n)) l
  held l n None is true is_old e f = ap (λ (h : Option ℕ). is_held_by h old) is ∙ had l ∙ sym (ap (λ (c : OpenCall). names_line c.lines l) done.state_is)
  held l n None is false true e f = refl
  held l n None is false false e f = ap (λ (h : Option ℕ). is_held_by h n) is ∙ tied.holders l n
  held l n (Some holder) is true is_old e f =
      ap (λ (m : ℕ). (if holder == old then new else holder) == m) (eqb-true n new e)
      ∙ to_new holder n (holder == old) refl (ap (λ (h : Option ℕ). is_held_by h new) is ∙ had_not l)
      ∙ ap (λ (h : Option ℕ). is_held_by h old) is ∙ had l ∙ sym (ap (λ (c : OpenCall). names_line c.lines l) done.state_is)
  held l n (Some holder) is false true e f = ap (λ (m : ℕ). (if holder == old then new else holder) == m) (eqb-true n old f) ∙ not_old holder (holder == old) refl
  held l n (Some holder) is false false e f = as_before holder n (holder == old) refl e f ∙ ap (λ (h : Option ℕ). is_held_by h n) is ∙ tied.holders l n

  created_tied : (k n : ℕ) → creator_at w.creators k ≡ Some n → IsCreatedBy (call_entry after.calls n) k
  created_tied k n e = subst (λ (x : Entry). IsCreatedBy x k) (sym (done.calls n)) (by_test (n == new) (n == old) refl (tied.created k n e))
    where
      by_test : (a b : Bool) → (n == new) ≡ a → IsCreatedBy (call_entry w.calls n) k
          → IsCreatedBy (if a then Some (Some done.state) else if b then Some None else call_entry w.calls n) k
      by_test true b same h = absurd (subst (λ (x : Entry). IsCreatedBy x k) (no_entry n (eqb-true n new same)) h)
      by_test false true same h = tt
      by_test false false same h = h

  pub tied_begun : AreTied after
  tied_begun = subst AreTied (sym done.rest) (record {
    links = links_tied;
    lines = λ l. tied.lines l ∙ sym (still_listed (line_entry w.holders l) (names_line done.before.lines l) new) ∙ ap is_some (sym (done.holders l));
    holders = λ l n. ap (λ (h : Option ℕ). is_held_by h n) (holders_after l) ∙ held l n (holder_in w l) refl (n == new) (n == old) refl refl
        ∙ ap (λ (x : Entry). has_line_among (open_entry x) l) (sym (done.calls n));
    created = created_tied;
    settled = tied.settled;
  })
