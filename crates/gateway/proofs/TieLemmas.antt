-- A call that changes: what stays tied, which calls stay open, and that a request whose end is put in place was executed.
use Rattle.std.proofs.Common.{◌≡◌, ◌∙◌, ℕ, ◌==◌, ◌+◌, ◌≤◌, Bool, true, false, if◌then◌else◌, List, length, Option, Some, None, is_some, option_map, ◌⊎◌, inl, inr, refl, sym, ap, subst, rules}
use Rattle.mg_names.specs.declared.identifiers.LineNo.{LineNo}
use Rattle.contexts.specs.BoardValue.{names_line}
use Rattle.std.proofs.lemmas.Bool.{eqb-true}
use Rattle.mg_model.specs.declared.failures.ChosenRefusal.{ChosenRefusal}
use Rattle.mg_names.specs.declared.identifiers.TermId.{TermId}
use Rattle.mg_names.specs.declared.identifiers.TermId.TheVariants.{Line, Eph}
use Rattle.mg_model.specs.declared.rows.Row.{Row}
use Rattle.mg_model.specs.Board.{Board, IsSettled, exists}
use Rattle.mg_model.specs.Items.{Done}
use Rattle.mg_model.specs.Numbers.{last_number}
use Rattle.mg_model.specs.Gateway.{Gateway, CallLink, after_request, reply_of, sent_notes, creator_after}
use Rattle.mg_model.specs.Messages.{Request, Reply, SentNote}
use Rattle.mg_model.specs.RequestRun.{Running}
use Rattle.mg_model.proofs.Cases.{the_some, same_itself}
use Rattle.requests.specs.Connected.{Connected, board_in, line_in, has_line, start_in}
use Rattle.gateway.specs.Answers.{IsAddressed, IsExecution, SameOpen}
use Rattle.gateway.specs.Calls.{OpenCall, call_entry, call_in, open_entry, is_retired_entry, line_entry, link_of, holder_of, with_call, keeping, creating}
use Rattle.mg_model.specs.Members.{is_among}
use Rattle.gateway.specs.Execution.{IsNew, IsRun}
use Rattle.gateway.specs.Creators.{creator_at, creator_on, any_created}
use Rattle.gateway.specs.GatewayValue.{GatewayValue, AreTied, IsCreatedBy, is_held_by, has_line_among, gateway_of, is_open}
use Rattle.gateway.proofs.CreatorLemmas.{creator_put}
use Rattle.gateway.proofs.OfferLemmas.{offer_is}

-- by a look-up, with its value
found : {X : Type 0} {P : Type 0} (o : Option X) → (o ≡ None → P) → ((x : X) → o ≡ Some x → P) → P
found None none some = none refl
found (Some x) none some = some x refl

abbrev pub Entry : Type 0
Entry = Option (Option OpenCall)

module _ (old new : ℕ → Entry) (call : ℕ) (change : OpenCall → OpenCall) (changed : (n : ℕ) → new n ≡ with_call old call change n) where
  -- what holds of each entry that stays and of the one that is changed holds of all
  pub by_entry : (P : ℕ → Entry → Entry → Type 0) → ((n : ℕ) → P n (old n) (old n)) → P call (old call) (option_map (option_map change) (old call))
      → (n : ℕ) → P n (old n) (new n)
  by_entry P same mapped n = subst (P n (old n)) (sym (changed n)) (by_test (n == call) refl)
    where
      by_test : (b : Bool) → (n == call) ≡ b → P n (old n) (if b then option_map (option_map change) (old call) else old n)
      by_test true e = subst (λ (m : ℕ). P m (old m) (option_map (option_map change) (old call))) (sym (eqb-true n call e)) mapped
      by_test false e = same n

  some_mapped : (e : Entry) → is_some (open_entry (option_map (option_map change) e)) ≡ is_some (open_entry e)
  some_mapped None = refl
  some_mapped (Some None) = refl
  some_mapped (Some (Some c)) = refl

  pub same_open : (n : ℕ) → is_some (open_entry (new n)) ≡ is_some (open_entry (old n))
  same_open = by_entry (λ n e f. is_some (open_entry f) ≡ is_some (open_entry e)) (λ n. refl) (some_mapped (old call))

  retired_mapped : (e : Entry) → is_retired_entry (option_map (option_map change) e) ≡ is_retired_entry e
  retired_mapped None = refl
  retired_mapped (Some None) = refl
  retired_mapped (Some (Some c)) = refl

  pub same_retired : (n : ℕ) → is_retired_entry (new n) ≡ is_retired_entry (old n)
  same_retired = by_entry (λ n e f. is_retired_entry f ≡ is_retired_entry e) (λ n. refl) (retired_mapped (old call))

  mapped_link : (association : ℕ) → ((c : OpenCall) → (change c).association ≡ c.association) → (e : Entry)
      → ((c : OpenCall) → open_entry e ≡ Some c → c.association ≡ association) → (c : OpenCall) → open_entry (option_map (option_map change) e) ≡ Some c
      → c.association ≡ association
  mapped_link association keeps None links c e = cc
  mapped_link association keeps (Some None) links c e = cc
  mapped_link association keeps (Some (Some before)) links c e =
      let same : change before ≡ c = cc in
      ap (λ (x : OpenCall). x.association) (sym same) ∙ keeps before ∙ links before refl

  pub same_links : (association : ℕ) → ((c : OpenCall) → (change c).association ≡ c.association)
      → ((n : ℕ) (c : OpenCall) → open_entry (old n) ≡ Some c → c.association ≡ association) → (n : ℕ) (c : OpenCall) → open_entry (new n) ≡ Some c → c.association ≡ association
  same_links association keeps links n =
      by_entry (λ m e f. ((c : OpenCall) → open_entry e ≡ Some c → c.association ≡ association) → (c : OpenCall) → open_entry f ≡ Some c → c.association ≡ association)
      (λ m h. h) (mapped_link association keeps (old call)) n (links n)

  lines_mapped : ((c : OpenCall) → (change c).lines ≡ c.lines) → (l : ℕ) (e : Entry)
      → has_line_among (open_entry (option_map (option_map change) e)) l ≡ has_line_among (open_entry e) l
  lines_mapped keeps l None = refl
  lines_mapped keeps l (Some None) = refl
  lines_mapped keeps l (Some (Some c)) = ap (λ (lines : List LineNo). names_line lines l) (keeps c)

  pub same_lines : ((c : OpenCall) → (change c).lines ≡ c.lines) → (l n : ℕ) → has_line_among (open_entry (new n)) l ≡ has_line_among (open_entry (old n)) l
  same_lines keeps l =
      by_entry (λ n e f. has_line_among (open_entry f) l ≡ has_line_among (open_entry e) l) (λ n. refl) (lines_mapped keeps l (old call))

  created_mapped : ((c : OpenCall) (k : ℕ) → open_entry (old call) ≡ Some c → is_among c.created k ≡ true → is_among (change c).created k ≡ true) → (k : ℕ)
      (e : Entry) → e ≡ old call → IsCreatedBy e k → IsCreatedBy (option_map (option_map change) e) k
  created_mapped keeps k None is h = h
  created_mapped keeps k (Some None) is h = h
  created_mapped keeps k (Some (Some c)) is h = keeps c k (ap open_entry (sym is)) h

  pub same_created : ((c : OpenCall) (k : ℕ) → open_entry (old call) ≡ Some c → is_among c.created k ≡ true → is_among (change c).created k ≡ true) → (k n : ℕ)
      → IsCreatedBy (old n) k → IsCreatedBy (new n) k
  same_created keeps k = by_entry (λ n e f. IsCreatedBy e k → IsCreatedBy f k) (λ n h. h) (created_mapped keeps k (old call) refl)

twice_mapped : (first second : OpenCall → OpenCall) (e : Entry) → option_map (option_map second) (option_map (option_map first) e) ≡ option_map (option_map (λ c. second (first c))) e
twice_mapped first second None = refl
twice_mapped first second (Some None) = refl
twice_mapped first second (Some (Some c)) = refl

-- a call that changes twice
pub changed_twice : (old between : ℕ → Entry) (call : ℕ) (first second : OpenCall → OpenCall) → ((n : ℕ) → between n ≡ with_call old call first n)
    → (n : ℕ) → with_call between call second n ≡ with_call old call (λ c. second (first c)) n
changed_twice old between call first second changed n = by_test (n == call) refl
  where
    at_call : between call ≡ option_map (option_map first) (old call)
    at_call = changed call ∙ rw (same_itself call) refl

    by_test : (b : Bool) → (n == call) ≡ b
        → (if b then option_map (option_map second) (between call) else between n) ≡ (if b then option_map (option_map (λ c. second (first c))) (old call) else old n)
    by_test true e = ap (option_map (option_map second)) at_call ∙ twice_mapped first second (old call)
    by_test false e = changed n ∙ rw e refl

-- the connections have the same lines, and one call changed that keeps its lines and what it created
pub tied_still : (old new : GatewayValue) (call : ℕ) (change : OpenCall → OpenCall) → new.association ≡ old.association → new.holders ≡ old.holders
    → new.creators ≡ old.creators
    → ((c : OpenCall) → (change c).association ≡ c.association) → ((c : OpenCall) → (change c).lines ≡ c.lines) → ((c : OpenCall) → (change c).created ≡ c.created)
    → ((l : ℕ) → has_line (board_in new.connected) l ≡ has_line (board_in old.connected) l)
    → ((n : ℕ) → call_entry new.calls n ≡ with_call (call_entry old.calls) call change n)
    → ((k : ℕ) → (board_in new.connected).used_ephemeral k ≡ exists (board_in new.connected) (Eph k)) → AreTied old → AreTied new
tied_still old new call change association holders creators keeps keeps_lines keeps_created there changed settled tied = record {
  links = λ n c e. same_links (call_entry old.calls) (call_entry new.calls) call change changed old.association keeps tied.links n c e ∙ sym association;
  lines = λ l. there l ∙ tied.lines l ∙ ap (λ (hs : List (ℕ × Option ℕ)). is_some (line_entry hs l)) (sym holders);
  holders = λ l n. ap (λ (hs : List (ℕ × Option ℕ)). is_held_by (holder_of (line_entry hs l)) n) holders ∙ tied.holders l n
      ∙ sym (same_lines (call_entry old.calls) (call_entry new.calls) call change changed keeps_lines l n);
  created = λ k n e. same_created (call_entry old.calls) (call_entry new.calls) call change changed
      (λ c m is among. ap (λ (created : List ℕ). is_among created m) (keeps_created c) ∙ among) k n
      (tied.created k n (ap (λ (cs : List (ℕ × ℕ)). creator_at cs k) (sym creators) ∙ e));
  settled = settled;
}

-- what a call created was noted of it, and then the call as the creator of some of that
pub tied_noted : (w : GatewayValue) (call : ℕ) (created : List ℕ) (calls : List (ℕ × Option OpenCall)) (creators : List (ℕ × ℕ)) → AreTied w
    → is_some (call_in w.calls call) ≡ true
    → ((n : ℕ) → call_entry calls n ≡ with_call (call_entry w.calls) call (creating created) n)
    → ((c : OpenCall) (k : ℕ) → call_in w.calls call ≡ Some c → is_among c.created k ≡ true → is_among created k ≡ true)
    → ((k : ℕ) → (creator_at creators k ≡ creator_at w.creators k) ⊎ ((is_among created k ≡ true) × (creator_at creators k ≡ Some call)))
    → AreTied (record { association = w.association; connected = w.connected; holders = w.holders; calls = calls; creators = creators })
tied_noted w call created calls creators tied opened changed kept noted = record {
  links = same_links (call_entry w.calls) (call_entry calls) call (creating created) changed w.association (λ c. refl) tied.links;
  lines = tied.lines;
  holders = λ l n. tied.holders l n ∙ sym (same_lines (call_entry w.calls) (call_entry calls) call (creating created) changed (λ c. refl) l n);
  created = λ k n e. by_noted k n e (noted k);
  settled = tied.settled;
}
  where
    in_created : (k : ℕ) → is_among created k ≡ true → (e : Entry) → is_some (open_entry e) ≡ true → IsCreatedBy (option_map (option_map (creating created)) e) k
    in_created k among None h = absurd (search rules)
    in_created k among (Some None) h = absurd (search rules)
    in_created k among (Some (Some c)) h = among

    at_call : (k : ℕ) → is_among created k ≡ true → IsCreatedBy (call_entry calls call) k
    at_call k among = subst (λ (e : Entry). IsCreatedBy e k) (sym (changed call ∙ rw (same_itself call) refl)) (in_created k among (call_entry w.calls call) opened)

    by_noted : (k n : ℕ) → creator_at creators k ≡ Some n
        → (creator_at creators k ≡ creator_at w.creators k) ⊎ ((is_among created k ≡ true) × (creator_at creators k ≡ Some call)) → IsCreatedBy (call_entry calls n) k
    by_noted k n e (inl same) = same_created (call_entry w.calls) (call_entry calls) call (creating created) changed kept k n (tied.created k n (sym same ∙ e))
    by_noted k n e (inr (among, is)) = subst (λ (m : ℕ). IsCreatedBy (call_entry calls m) k) (the_some call n (sym is ∙ e)) (at_call k among)

pub settled_line : (b settled : Board) → IsSettled b settled → (l : ℕ) → has_line settled l ≡ has_line b l
settled_line b settled is l = ap (λ (rows : TermId → Option Row). is_some (rows (Line (record { 0 = l })))) is.row

pub settled_ephemeral : (b settled : Board) → IsSettled b settled → (k : ℕ) → settled.used_ephemeral k ≡ exists settled (Eph k)
settled_ephemeral b settled is k = is.ephemerals k ∙ ap (λ (rows : TermId → Option Row). is_some (rows (Eph k))) (sym is.row)

pub open_still : (old new : GatewayValue) (call : ℕ) (change : OpenCall → OpenCall)
    → ((n : ℕ) → call_entry new.calls n ≡ with_call (call_entry old.calls) call change n) → SameOpen old new
unfolding is_open
open_still old new call change changed n = same_open (call_entry old.calls) (call_entry new.calls) call change changed n

-- ---- a request

-- a call of which a request was put in place
abbrev pub put_in : Reply → ℕ → List ℕ → OpenCall → OpenCall
put_in kept last created c = keeping kept last (creating created c)

link_put : (e : Entry) (state : OpenCall) (kept reply : Reply) (last count : ℕ) (created : List ℕ) → open_entry e ≡ Some state → kept ≡ reply → last ≡ count
    → record { last = Some reply; notes = count } ≡ link_of (open_entry (option_map (option_map (put_in kept last created)) e))
link_put None state kept reply last count created e k n = cc
link_put (Some None) state kept reply last count created e k n = cc
link_put (Some (Some c)) state kept reply last count created e k n =
    ap (λ (r : Reply). record { last = Some r; notes = count }) (sym k) ∙ ap (λ (m : ℕ). record { last = Some kept; notes = m }) (sym n)

links_put : (entries : ℕ → Entry) (call : ℕ) (state : OpenCall) (kept reply : Reply) (last count : ℕ) (created : List ℕ) → open_entry (entries call) ≡ Some state → kept ≡ reply
    → last ≡ count → (c : ℕ) (same : Bool)
    → (if same then record { last = Some reply; notes = count } else link_of (open_entry (entries c)))
    ≡ link_of (open_entry (if same then option_map (option_map (put_in kept last created)) (entries call) else entries c))
links_put entries call state kept reply last count created e k n c true = link_put (entries call) state kept reply last count created e k n
links_put entries call state kept reply last count created e k n c false = refl

-- where the request is put in place: its end, the reply that is kept, and its call as the creator of what it created
pub record IsPut (old new : GatewayValue) (request : Request) (results : List Done) (kept : Reply) (last : ℕ) (ended : Connected) : Type 0 where
  pub association : new.association ≡ old.association
  pub connected : new.connected ≡ ended
  pub holders : new.holders ≡ old.holders
  pub created : List ℕ
  pub calls : (n : ℕ) → call_entry new.calls n ≡ with_call (call_entry old.calls) request.call (put_in kept last created) n
  pub creators : (k : ℕ) → creator_at new.creators k ≡ (if any_created results k then Some request.call else creator_at old.creators k)

pub executed_put : (old new : GatewayValue) (request : Request) (refusal : Option ChosenRefusal) (last : ℕ) (ended : Connected) (reply kept : Reply) (notes : List SentNote)
    (last_after : ℕ) → ((k : ℕ) → (board_in old.connected).used_ephemeral k ≡ exists (board_in old.connected) (Eph k)) → IsNew old request last → IsRun old.connected request refusal last ended reply kept notes last_after
    → IsPut old new request reply.results kept last_after ended → IsExecution old request refusal new reply notes
unfolding gateway_of
executed_put old new request refusal last ended reply kept notes last_after settled asked run put =
    let ends = run.is_end in
    let g : Gateway = gateway_of old in
    let end : Running = record { board = ends.board; line = line_in ended; results = reply.results; notes = run.raised } in
    let after : Gateway = after_request g request end (board_in ended) run.failure in
    let state : OpenCall = asked.state in
    let link_is : g.link request.call ≡ link_of (Some state) = ap link_of asked.is_state in
    let last_is : last ≡ (g.link request.call).notes = asked.last_is ∙ ap (λ (x : CallLink). x.notes) (sym link_is) in
    let kept_is : kept ≡ reply_of request end run.failure = run.kept_is ∙ run.reply_is in
    let count_is : last_after ≡ (g.link request.call).notes + length run.raised = run.last_is ∙ ap (λ (n : ℕ). n + length run.raised) last_is in
    let creators : (k : ℕ) → creator_on (board_in new.connected) new.creators k ≡ creator_after g request end k =
    λ k. ap (λ (c : Connected). creator_on (board_in c) new.creators k) put.connected
    ∙ creator_put request.number refusal (start_in old.connected) request.commands end run.failure ends.runs refl (board_in ended) ends.is_settled settled request.call
    old.creators new.creators put.creators k in
    record {
      end = end;
      settled = board_in ended;
      failure = run.failure;
      is_fresh = offer_is old request state asked.is_state asked.of_association ∙ asked.is_fresh;
      room = subst (λ (n : ℕ). n + length request.commands ≤ last_number) last_is asked.room;
      runs = ends.runs;
      is_settled = ends.is_settled;
      after_is = λ i. record {
        association = put.association i;
        board = board_in (put.connected i);
        line = line_in (put.connected i);
        holder = λ l. holder_of (line_entry (put.holders i) l);
        creator = λ k. creators k i;
        link = λ c. (ap (λ (e : Entry). link_of (open_entry e)) (put.calls c)
            ∙ sym (links_put (call_entry old.calls) request.call state kept (reply_of request end run.failure) last_after ((g.link request.call).notes + length run.raised)
            put.created asked.is_state kept_is count_is c (c == request.call))) i;
        retired = λ c. same_retired (call_entry old.calls) (call_entry new.calls) request.call (put_in kept last_after put.created) put.calls c i;
      };
      reply_is = run.reply_is;
      notes_are = run.notes_are ∙ ap (λ (n : ℕ). sent_notes request.call request.association n run.raised) last_is;
    }

pub put_is : (old new : GatewayValue) (request : Request) (refusal : Option ChosenRefusal) (last : ℕ) (ended : Connected) (reply kept : Reply) (notes : List SentNote) (last_after : ℕ)
    → ((k : ℕ) → (board_in old.connected).used_ephemeral k ≡ exists (board_in old.connected) (Eph k)) → IsNew old request last → IsRun old.connected request refusal last ended reply kept notes last_after
    → IsPut old new request reply.results kept last_after ended
    → IsAddressed old request.call request × (IsExecution old request refusal new reply notes × SameOpen old new)
unfolding is_open
put_is old new request refusal last ended reply kept notes last_after settled asked run put = (
  (ap is_some asked.is_state, refl),
  (executed_put old new request refusal last ended reply kept notes last_after settled asked run put, open_still old new request.call (put_in kept last_after put.created) put.calls),
)
