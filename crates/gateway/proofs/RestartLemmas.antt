-- A restart: what it makes of the gateway, and that it stays tied.
use Rattle.std.proofs.Common.{◌≡◌, ◌∙◌, ℕ, ◌+◌, ◌<◌, false, if◌then◌else◌, List, [], Option, Some, None, is_some, option_map, refl, sym, ap, subst, arith}
use Rattle.mg_names.specs.declared.identifiers.TermId.TheVariants.{Line, Eph}
use Rattle.mg_model.specs.declared.rows.Row.{Row}
use Rattle.mg_model.specs.Board.{Board, exists}
use Rattle.mg_model.specs.Numbers.{last_association}
use Rattle.mg_model.specs.Gateway.{restarted, link_restarted, board_restarted, row_restarted}
use Rattle.mg_model.specs.LineEvents.{cleared}
use Rattle.requests.specs.Connected.{board_in, line_in, has_line}
use Rattle.gateway.specs.Answers.{IsNext, SameOpen}
use Rattle.gateway.specs.Calls.{OpenCall, call_entry, open_entry, is_retired_entry, line_entry, link_of, holder_of, restarting}
use Rattle.gateway.specs.Creators.{creator_at, creator_on}
use Rattle.gateway.specs.GatewayValue.{GatewayValue, AreTied, is_held_by, has_line_among, gateway_of, is_open}
use Rattle.gateway.proofs.TieLemmas.{Entry}

-- of what was no more nobody is the creator
nobody_created : (b : Board) (creators : List (ℕ × ℕ)) (k : ℕ) → creator_on (board_restarted b) creators k ≡ None
nobody_created b creators k = by_row (b.row (Eph k))
  where
    by_row : (row : Option Row) → (if is_some (row_restarted (Eph k) row) then creator_at creators k else None) ≡ None
    by_row None = refl
    by_row (Some row) = refl

link_restarted_is : (association : ℕ) (e : Entry) → link_of (open_entry (option_map (option_map (restarting association)) e)) ≡ link_restarted (link_of (open_entry e))
link_restarted_is association None = refl
link_restarted_is association (Some None) = refl
link_restarted_is association (Some (Some c)) = refl

retired_restarted : (association : ℕ) (e : Entry) → is_retired_entry (option_map (option_map (restarting association)) e) ≡ is_retired_entry e
retired_restarted association None = refl
retired_restarted association (Some None) = refl
retired_restarted association (Some (Some c)) = refl

pub restarted_is : (old new : GatewayValue) → new.association ≡ old.association + 1 → board_in new.connected ≡ board_restarted (board_in old.connected)
    → line_in new.connected ≡ (λ l. cleared (line_in old.connected l)) → new.holders ≡ old.holders
    → ((n : ℕ) → call_entry new.calls n ≡ option_map (option_map (restarting new.association)) (call_entry old.calls n))
    → gateway_of new ≡ restarted (gateway_of old)
unfolding gateway_of
restarted_is old new association board lines holders calls = λ i. record {
  association = association i;
  board = board i;
  line = lines i;
  holder = λ l. holder_of (line_entry (holders i) l);
  creator = λ k. (ap (λ (b : Board). creator_on b new.creators k) board ∙ nobody_created (board_in old.connected) new.creators k) i;
  link = λ call. (ap (λ (e : Entry). link_of (open_entry e)) (calls call) ∙ link_restarted_is new.association (call_entry old.calls call)) i;
  retired = λ call. (ap is_retired_entry (calls call) ∙ retired_restarted new.association (call_entry old.calls call)) i;
}

some_restarted : (association : ℕ) (e : Entry) → is_some (open_entry (option_map (option_map (restarting association)) e)) ≡ is_some (open_entry e)
some_restarted association None = refl
some_restarted association (Some None) = refl
some_restarted association (Some (Some c)) = refl

pub open_restarted : (old new : GatewayValue) → ((n : ℕ) → call_entry new.calls n ≡ option_map (option_map (restarting new.association)) (call_entry old.calls n)) → SameOpen old new
unfolding is_open
open_restarted old new calls n = ap (λ (e : Entry). is_some (open_entry e)) (calls n) ∙ some_restarted new.association (call_entry old.calls n)

pub next_is : (v now new : GatewayValue) → v ≡ now → v.association + 1 < last_association + 1 → new.association ≡ v.association + 1
    → board_in new.connected ≡ board_restarted (board_in v.connected) → line_in new.connected ≡ (λ l. cleared (line_in v.connected l)) → new.holders ≡ v.holders
    → ((n : ℕ) → call_entry new.calls n ≡ option_map (option_map (restarting new.association)) (call_entry v.calls n)) → IsNext now new new.association
next_is v now new e room association board lines holders calls = subst (λ (w : GatewayValue). IsNext w new new.association) e (record {
  restarts = restarted_is v new association board lines holders calls;
  answered = refl;
  room = omega arith;
  open_calls = open_restarted v new calls;
})

link_associated : (association : ℕ) (e : Entry) (c : OpenCall) → open_entry (option_map (option_map (restarting association)) e) ≡ Some c → c.association ≡ association
link_associated association None c e = cc
link_associated association (Some None) c e = cc
link_associated association (Some (Some before)) c e = let same : restarting association before ≡ c = cc in ap (λ (x : OpenCall). x.association) (sym same)

lines_restarted : (association l : ℕ) (e : Entry) → has_line_among (open_entry (option_map (option_map (restarting association)) e)) l ≡ has_line_among (open_entry e) l
lines_restarted association l None = refl
lines_restarted association l (Some None) = refl
lines_restarted association l (Some (Some c)) = refl

nobody_noted : (k : ℕ) → creator_at [] k ≡ None
unfolding creator_at
nobody_noted k = refl

line_restarted : (b : Board) (l : ℕ) → has_line (board_restarted b) l ≡ has_line b l
line_restarted b l = by_row (b.row (Line (record { 0 = l })))
  where
    by_row : (row : Option Row) → is_some (row_restarted (Line (record { 0 = l })) row) ≡ is_some row
    by_row None = refl
    by_row (Some row) = refl

none_restarted : (b : Board) (k : ℕ) → false ≡ exists (board_restarted b) (Eph k)
none_restarted b k = by_row (b.row (Eph k))
  where
    by_row : (row : Option Row) → false ≡ is_some (row_restarted (Eph k) row)
    by_row None = refl
    by_row (Some row) = refl

pub tied_restarted : (old new : GatewayValue) → AreTied old → board_in new.connected ≡ board_restarted (board_in old.connected) → new.holders ≡ old.holders → new.creators ≡ []
    → ((n : ℕ) → call_entry new.calls n ≡ option_map (option_map (restarting new.association)) (call_entry old.calls n)) → AreTied new
tied_restarted old new tied board holders creators calls = record {
  links = λ n c e. link_associated new.association (call_entry old.calls n) c (ap open_entry (sym (calls n)) ∙ e);
  lines = λ l. ap (λ (b : Board). has_line b l) board ∙ line_restarted (board_in old.connected) l ∙ tied.lines l
      ∙ ap (λ (hs : List (ℕ × Option ℕ)). is_some (line_entry hs l)) (sym holders);
  holders = λ l n. ap (λ (hs : List (ℕ × Option ℕ)). is_held_by (holder_of (line_entry hs l)) n) holders ∙ tied.holders l n
      ∙ sym (lines_restarted new.association l (call_entry old.calls n)) ∙ ap (λ (e : Entry). has_line_among (open_entry e) l) (sym (calls n));
  created = λ k n e. let none : None ≡ Some n = sym (nobody_noted k) ∙ ap (λ (cs : List (ℕ × ℕ)). creator_at cs k) (sym creators) ∙ e in absurd (none_is_not n none);
  settled = λ k. ap (λ (b : Board). b.used_ephemeral k) board ∙ none_restarted (board_in old.connected) k ∙ ap (λ (b : Board). exists b (Eph k)) (sym board);
}
  where
    none_is_not : (n : ℕ) → None ≡ Some n → ⊥
    none_is_not n e = cc
