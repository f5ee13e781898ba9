-- A gateway whose call was opened stays tied.
use Rattle.std.proofs.Common.{◌≡◌, ◌∙◌, ℕ, ◌==◌, ◌&&◌, Bool, true, false, not, if◌then◌else◌, List, Option, Some, None, is_some, Ok, refl, sym, ap, subst, rules}
use Rattle.std.proofs.lemmas.Bool.{eqb-true, and_parts}
use Rattle.mg_names.specs.declared.identifiers.LineNo.{LineNo}
use Rattle.mg_names.specs.declared.identifiers.TermId.TheVariants.{Line, Eph}
use Rattle.mg_model.specs.Board.{Board, exists}
use Rattle.mg_model.proofs.Cases.{same_turned}
use Rattle.contexts.specs.BoardValue.{names_line}
use Rattle.requests.specs.Connected.{board_in, has_line, is_idle}
use Rattle.requests.specs.Idle.{idle_row}
use Rattle.gateway.specs.Calls.{OpenCall, call_entry, call_in, open_entry, line_entry, holder_of}
use Rattle.gateway.specs.Creators.{creator_at}
use Rattle.gateway.specs.Openings.{opening_on}
use Rattle.gateway.specs.Standby.{board_idled}
use Rattle.gateway.specs.GatewayValue.{GatewayValue, AreTied, IsCreatedBy, is_held_by, has_line_among, holder_in, is_taken}
use Rattle.gateway.proofs.OpeningLemmas.{there_idle}
use Rattle.gateway.proofs.StartLemmas.{IsOpened, CanOpen, can_open, all_among, free_number, held_is, not_taken}
use Rattle.gateway.proofs.TieLemmas.{Entry}

idled_there : (b : Board) (lines : List LineNo) (l : ℕ) → has_line (board_idled lines b) l ≡ has_line b l
idled_there b lines l = by_test (names_line lines l)
  where
    by_test : (among : Bool) → is_some (if among then idle_row (b.row (Line (record { 0 = l }))) else b.row (Line (record { 0 = l }))) ≡ is_some (b.row (Line (record { 0 = l })))
    by_test true = there_idle (b.row (Line (record { 0 = l })))
    by_test false = refl

pub still_listed : (entry : Option (Option ℕ)) (among : Bool) (call : ℕ) → is_some (if among && is_some entry then Some (Some call) else entry) ≡ is_some entry
still_listed None true call = refl
still_listed None false call = refl
still_listed (Some holder) true call = refl
still_listed (Some holder) false call = refl

free_none : (b : Board) (holder : ℕ → Option ℕ) (l : ℕ) → free_number b holder l ≡ true → holder l ≡ None
free_none b holder l h = by (holder l) (and_parts (is_idle b l) (not (is_some (holder l))) h).1
  where
    by : (o : Option ℕ) → not (is_some o) ≡ true → o ≡ None
    by None e = refl
    by (Some call) e = absurd (search rules)

module _ (w new : GatewayValue) (call : ℕ) (lines : List LineNo) (tied : AreTied w)
    (answer : opening_on (board_in w.connected) (holder_in w) (is_taken w call) lines ≡ Ok tt) (done : IsOpened w new call lines) where
  can : CanOpen (board_in w.connected) (holder_in w) (is_taken w call) lines
  can = can_open (board_in w.connected) (holder_in w) (is_taken w call) lines answer

  no_entry : call_entry w.calls call ≡ None
  unfolding is_taken
  no_entry = not_taken (call_entry w.calls call) can.new

  links_tied : (n : ℕ) (c : OpenCall) → call_in new.calls n ≡ Some c → c.association ≡ new.association
  links_tied n c e = by_test (n == call) (sym (ap open_entry (done.calls n)) ∙ e) ∙ sym done.association
    where
      some_same : (a b : OpenCall) → Some a ≡ Some b → a ≡ b
      some_same a b e = cc

      by_test : (b : Bool) → open_entry (if b then Some (Some done.state) else call_entry w.calls n) ≡ Some c → c.association ≡ w.association
      by_test true h = ap (λ (x : OpenCall). x.association) (sym (some_same done.state c h) ∙ done.state_is)
      by_test false h = tied.links n c h

  held : (l n : ℕ) (same among : Bool) → (n == call) ≡ same → names_line lines l ≡ among
      → is_held_by (if among then Some call else holder_in w l) n ≡ has_line_among (open_entry (if same then Some (Some done.state) else call_entry w.calls n)) l
  held l n true true e a = same_turned call n ∙ e ∙ sym (ap (λ (c : OpenCall). names_line c.lines l) done.state_is ∙ a)
  held l n true false e a = ap (is_held_by (holder_in w l)) (eqb-true n call e) ∙ tied.holders l call ∙ ap (λ (x : Entry). has_line_among (open_entry x) l) no_entry
      ∙ sym (ap (λ (c : OpenCall). names_line c.lines l) done.state_is ∙ a)
  held l n false true e a = same_turned call n ∙ e
      ∙ ap (λ (h : Option ℕ). is_held_by h n) (sym (free_none (board_in w.connected) (holder_in w) l (all_among (free_number (board_in w.connected) (holder_in w)) lines l can.free a)))
      ∙ tied.holders l n
  held l n false false e a = tied.holders l n

  created_tied : (k n : ℕ) → creator_at new.creators k ≡ Some n → IsCreatedBy (call_entry new.calls n) k
  created_tied k n e = subst (λ (x : Entry). IsCreatedBy x k) (sym (done.calls n)) (by_test (n == call) refl (tied.created k n (ap (λ (cs : List (ℕ × ℕ)). creator_at cs k) (sym done.creators) ∙ e)))
    where
      by_test : (b : Bool) → (n == call) ≡ b → IsCreatedBy (call_entry w.calls n) k → IsCreatedBy (if b then Some (Some done.state) else call_entry w.calls n) k
      by_test true same h = absurd (subst (λ (x : Entry). IsCreatedBy x k) (ap (call_entry w.calls) (eqb-true n call same) ∙ no_entry) h)
      by_test false same h = h

  pub tied_opened : AreTied new
  tied_opened = record {
    links = links_tied;
    lines = λ l. ap (λ (b : Board). has_line b l) done.shows.board ∙ idled_there (board_in w.connected) lines l ∙ tied.lines l
        ∙ sym (still_listed (line_entry w.holders l) (names_line lines l) call) ∙ ap is_some (sym (done.holders l));
    holders = λ l n. ap (λ (e : Option (Option ℕ)). is_held_by (holder_of e) n) (done.holders l)
        ∙ ap (λ (h : Option ℕ). is_held_by h n) (held_is w tied lines can.there call l)
        ∙ held l n (n == call) (names_line lines l) refl refl ∙ ap (λ (x : Entry). has_line_among (open_entry x) l) (sym (done.calls n));
    created = created_tied;
    settled = λ k. ap (λ (b : Board). b.used_ephemeral k) done.shows.board ∙ tied.settled k ∙ ap (λ (b : Board). exists b (Eph k)) (sym done.shows.board);
  }
