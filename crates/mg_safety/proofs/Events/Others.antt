-- A request of one call leaves what every other call is shown: what it changes it owns, and it stands where no other call stands.
use Rattle.mg_safety.proofs.Words.{◌≡◌, ◌∙◌, ◌<◌, ℕ, Bool, true, false, Option, Some, None, is_some, length, refl, sym, ap, subst, arith, inl, inr, true≢false}
use Rattle.mg_safety.proofs.Words.{◌&&◌, ◌||◌, not, if◌then◌else◌, eqb-true, eq-eqb, or_right, false_from_ne_true, In, TermId, Line, Eph, Termination, Row}
use Rattle.mg_safety.proofs.Words.{Agent, Board, exists, place_of, place_in, mode_in, remote_in, Configuration, Gateway, CallLink, LineRow, Script, IsSlot}
use Rattle.mg_safety.proofs.Words.{not_both, different, the_some}
use Rattle.mg_model.specs.declared.commands.Termination.TheVariants as termination
use Rattle.mg_safety.proofs.InvariantWords.{Naming, Seen, RemoteSeen, owned_at, row_on, cut_on, term_of, is_call, owner_of, owned_in, IsLost, IsOwnChange}
use Rattle.mg_safety.proofs.InvariantWords.{OthersStayShown, OwnersAgree}
use Rattle.mg_safety.proofs.Requests.Starting.{spot_used}
use Rattle.mg_safety.proofs.Shared.Components.{eph_is}

-- ---- whose a termination is

-- what a call owns when no request runs it created
pub created_only : (created given : Bool) → (created || (given && not given)) ≡ created
created_only true given = refl
created_only false true = refl
created_only false false = refl

or_nothing : (p : Bool) → p ≡ (p || false)
or_nothing true = refl
or_nothing false = refl

-- whose one that exists is after: the changing call's if it is one of this request
made_by : (was : Option ℕ) (call : ℕ) (stands now before : Bool) (after : Option ℕ) → after ≡ (if stands then (if before then was else Some call) else None)
    → stands ≡ true → now ≡ true → is_call after call ≡ (is_call was call || (now && not before))
made_by was call stands now true after e there used = rw (e, there, used) (or_nothing (is_call was call))
made_by was call stands now false after e there used =
    rw (e, there, used) (eq-eqb call call refl ∙ sym (or_right (is_call was call) true refl))

pub owners_agree : OwnersAgree
owners_agree g end after call accounted own (Line l) there = ap (λ (h : ℕ → Option ℕ). is_call (h l.0) call) own.holder
owners_agree g end after call accounted own (Eph x) there =
    created_only (is_call (after.creator x) call) (after.board.used_ephemeral x)
    ∙ made_by (g.creator x) call (exists end (Eph x)) (end.used_ephemeral x) (g.board.used_ephemeral x) (after.creator x) (own.creator x) there
    (accounted.ephemerals x there)

-- a call's number and another's
pub is_call_of : (o : Option ℕ) (call : ℕ) → is_call o call ≡ true → o ≡ Some call
is_call_of None call e = absurd (true≢false (sym e))
is_call_of (Some one) call e = ap (λ n. Some n) (eqb-true one call e)

of_one : (o : Option ℕ) (call other : ℕ) → (call ≡ other → ⊥) → is_call o other ≡ true → is_call o call ≡ false
of_one o call other apart is = false_from_ne_true (is_call o call)
    (λ e. apart (the_some call other (sym (is_call_of o call e) ∙ is_call_of o other is)))

-- what another call owns
pub apart_at : (g : Gateway) (end : Board) (after : Gateway) (call other : ℕ) → IsOwnChange g end after call → (call ≡ other → ⊥) → (t : TermId)
    → owned_in g other t ≡ true → (b : Board) → owned_at (owner_of g call) b t ≡ false
apart_at g end after call other own apart (Line l) is b = of_one (g.holder l.0) call other apart is
apart_at g end after call other own apart (Eph x) is b =
    let created : is_call (g.creator x) other ≡ true = sym (created_only (is_call (g.creator x) other) (g.board.used_ephemeral x)) ∙ is in
    let given : g.board.used_ephemeral x ≡ true = own.accounted.ephemerals x (own.creator_stands x other (is_call_of (g.creator x) other created)) in
    rw (of_one (g.creator x) call other apart created, given) (never (b.used_ephemeral x))
  where
    never : (p : Bool) → (p && false) ≡ false
    never true = refl
    never false = refl

-- the creator of an ephemeral that is another call's is its creator after, and of no other ephemeral
still_of : (was : Option ℕ) (call other : ℕ) (stands used : Bool) (after : Option ℕ)
    → after ≡ (if stands then (if used then was else Some call) else None) → (call ≡ other → ⊥)
    → (is_call was other ≡ true → (stands ≡ true) × (used ≡ true)) → is_call after other ≡ is_call was other
still_of was call other true true after e apart both = rw e refl
still_of was call other true false after e apart both =
    rw e (different call other apart ∙ sym (false_from_ne_true (is_call was other) (λ is. true≢false (sym (both is).1))))
still_of was call other false used after e apart both = rw e (sym (false_from_ne_true (is_call was other) (λ is. true≢false (sym (both is).0))))

still_owned : (g : Gateway) (end : Board) (after : Gateway) (call other : ℕ) → IsOwnChange g end after call → (call ≡ other → ⊥) → (t : TermId)
    → owned_in after other t ≡ owned_in g other t
still_owned g end after call other own apart (Line l) = ap (λ (h : ℕ → Option ℕ). is_call (h l.0) other) own.holder
still_owned g end after call other own apart (Eph x) =
    created_only (is_call (after.creator x) other) (after.board.used_ephemeral x)
    ∙ still_of (g.creator x) call other (exists end (Eph x)) (g.board.used_ephemeral x) (after.creator x) (own.creator x) apart both
    ∙ sym (created_only (is_call (g.creator x) other) (g.board.used_ephemeral x))
  where
    both : is_call (g.creator x) other ≡ true → (exists end (Eph x) ≡ true) × (g.board.used_ephemeral x ≡ true)
    both is =
        let there = own.creator_stands x other (is_call_of (g.creator x) other is) in
        let its = created_only (is_call (g.creator x) other) (g.board.used_ephemeral x) ∙ is in
        (ap is_some (own.changes.row (Eph x) (apart_at g end after call other own apart (Eph x) its end)) ∙ there, own.accounted.ephemerals x there)

-- ---- what another call is shown

-- what a name stands for is owned
pub name_owned : (script : Script) (owned : TermId → Bool) (n : Naming)
    → ((i : ℕ) → i < length script.lines → owned (Line (record { 0 = n.lines i })) ≡ true) → ((k x : ℕ) → n.ephemerals k ≡ Some x → owned (Eph x) ≡ true)
    → (t : Termination) → IsSlot script t → (u : TermId) → term_of n t ≡ Some u → owned u ≡ true
name_owned script owned n lines ephemerals (termination.Line i) slot u e = ap owned (sym (the_some (Line (record { 0 = n.lines i })) u e)) ∙ lines i slot
name_owned script owned n lines ephemerals (termination.Ephemeral k) slot u e =
    let x = eph_is (n.ephemerals k) u e in ap owned x.2 ∙ ephemerals k x.0 x.1

-- the rows and the cuts of names are those before, where those of what is owned are
row_stays : (b after : Board) (owned : TermId → Bool) → ((u : TermId) → owned u ≡ true → after.row u ≡ b.row u)
    → (o : Option TermId) → ((u : TermId) → o ≡ Some u → owned u ≡ true) → row_on after o ≡ row_on b o
row_stays b after owned rows None mine = refl
row_stays b after owned rows (Some u) mine = rows u (mine u refl)

cut_stays : (b after : Board) (owned : TermId → Bool) → ((u v : TermId) → owned u ≡ true → owned v ≡ true → after.cut u v ≡ b.cut u v)
    → (o p : Option TermId) → ((u : TermId) → o ≡ Some u → owned u ≡ true) → ((u : TermId) → p ≡ Some u → owned u ≡ true)
    → cut_on after o p ≡ cut_on b o p
cut_stays b after owned cuts None p mine also = refl
cut_stays b after owned cuts (Some u) None mine also = refl
cut_stays b after owned cuts (Some u) (Some v) mine also = cuts u v (mine u refl) (also v refl)

-- who stands beside one of the other call's after the request is a slot of it: it stood there before, or the changing call owns it, and
-- then one that the changing call owned stood there, or the context is new
member_stays : (script : Script) (g : Gateway) (end : Board) (after : Gateway) (call other : ℕ) (n : Naming) (c : Configuration) → IsOwnChange g end after call
    → (call ≡ other → ⊥) → Seen script (owned_in g other) n g.board c → (v : Termination) (j x : ℕ) (t : TermId) → IsSlot script v → c.spot v ≡ In j
    → n.contexts j ≡ Some x → place_of end t ≡ x → (u : Termination) × IsSlot script u × (term_of n u ≡ Some t)
member_stays script g end after call other n c own apart seen v j x t slot spot is at = go (owned_at (owner_of g call) end t) refl
  where
    not_null : place_of end t ≡ 0 → ⊥
    not_null e = let above : 0 < x = (seen.context_number j x is).0 in let here : place_of end t ≡ x = at in omega (arith, above, here, e)

    go : (test : Bool) → owned_at (owner_of g call) end t ≡ test → (u : Termination) × IsSlot script u × (term_of n u ≡ Some t)
    go false not_own = seen.members v j x t slot spot is (sym (ap place_in (own.changes.row t not_own)) ∙ at)
    go true its_own = elim (own.changes.place t its_own not_null) [
      | inl stood ↦
          let its = seen.members v j x stood.0 slot spot is (stood.2 ∙ at) in
          absurd (not_both stood.1 (apart_at g end after call other own apart stood.0
          (name_owned script (owned_in g other) n seen.line_owned seen.ephemeral_owned its.0 its.1 stood.0 its.2) g.board))
      | inr new ↦ absurd (not_both (spot_used script (owned_in g other) n g.board c seen own.accounted v j x slot spot is)
          (sym (ap g.board.used_context at) ∙ new))
    ]

pub others_stay : OthersStayShown
others_stay script g end after call other n c own apart seen =
    let mine = name_owned script (owned_in g other) n seen.line_owned seen.ephemeral_owned in
    let row : (u : TermId) → owned_in g other u ≡ true → after.board.row u ≡ g.board.row u = λ u is.
    ap (λ (rows : TermId → Option Row). rows u) own.settled.row ∙ own.changes.row u (apart_at g end after call other own apart u is end) in
    let cut : (u v : TermId) → owned_in g other u ≡ true → owned_in g other v ≡ true → after.board.cut u v ≡ g.board.cut u v = λ u v is so.
    ap (λ (cuts : TermId → TermId → Bool). cuts u v) own.settled.cut
    ∙ own.changes.cut u v (apart_at g end after call other own apart u is end) (apart_at g end after call other own apart v so end) in
    let rows : (t : Termination) → IsSlot script t → row_on after.board (term_of n t) ≡ row_on g.board (term_of n t) =
    λ t slot. row_stays g.board after.board (owned_in g other) row (term_of n t) (mine t slot) in
    record {
      stands = λ t slot. ap is_some (rows t slot) ∙ seen.stands t slot;
      place = λ t slot. ap place_in (rows t slot) ∙ seen.place t slot;
      in_bound = seen.in_bound;
      mode = λ t slot. seen.mode t slot ∙ sym (ap mode_in (rows t slot));
      remote = λ k slot. subst (λ (o : Option Row). RemoteSeen n (c.remote k) (remote_in o)) (sym (rows (termination.Ephemeral k) slot)) (seen.remote k slot);
      cut = λ t u slot also. seen.cut t u slot also
          ∙ sym (cut_stays g.board after.board (owned_in g other) cut (term_of n t) (term_of n u) (mine t slot) (mine u also));
      bound = seen.bound;
      line_stands = λ i slot. ap is_some (row (Line (record { 0 = n.lines i })) (seen.line_owned i slot)) ∙ seen.line_stands i slot;
      line_owned = λ i slot. still_owned g end after call other own apart (Line (record { 0 = n.lines i })) ∙ seen.line_owned i slot;
      line_once = seen.line_once;
      context_number = seen.context_number;
      context_once = seen.context_once;
      members = λ v j x t slot spot is at. member_stays script g end after call other n c own apart seen v j x t slot spot is
          (sym (ap (λ (rows : TermId → Option Row). place_in (rows t)) own.settled.row) ∙ at);
      ephemeral_slot = seen.ephemeral_slot;
      ephemeral_stands = λ k x is. ap is_some (row (Eph x) (seen.ephemeral_owned k x is)) ∙ seen.ephemeral_stands k x is;
      ephemeral_owned = λ k x is. still_owned g end after call other own apart (Eph x) ∙ seen.ephemeral_owned k x is;
      ephemeral_once = seen.ephemeral_once;
      ephemeral_named = λ x is stands.
          let was : owned_in g other (Eph x) ≡ true = sym (still_owned g end after call other own apart (Eph x)) ∙ is in
          seen.ephemeral_named x was (sym (ap is_some (row (Eph x) was)) ∙ stands);
    }

-- ---- a call of an older association

-- it owns its lines alone, and the request of another call changes none of them
pub other_lost : (script : Script) (g : Gateway) (end : Board) (after : Gateway) (b : Agent) (call : ℕ) → IsLost script g b → IsOwnChange g end after call
    → (call ≡ b.call → ⊥) → after.association ≡ g.association → ((i : ℕ) → i < length script.lines → g.holder (b.lines i) ≡ Some b.call)
    → ((l : ℕ) → is_call (g.holder l) call ≡ false → after.line l ≡ g.line l) → after.link b.call ≡ g.link b.call → IsLost script after b
other_lost script g end after b call lost own apart same held lines link =
    let mine : (i : ℕ) → i < length script.lines → is_call (g.holder (b.lines i)) b.call ≡ true =
    λ i slot. ap (λ (o : Option ℕ). is_call o b.call) (held i slot) ∙ eq-eqb b.call b.call refl in
    let not_own : (i : ℕ) → i < length script.lines → is_call (g.holder (b.lines i)) call ≡ false =
    λ i slot. of_one (g.holder (b.lines i)) call b.call apart (mine i slot) in
    let line : (i : ℕ) → i < length script.lines → after.line (b.lines i) ≡ g.line (b.lines i) = λ i slot. lines (b.lines i) (not_own i slot) in
    record {
      association = subst (λ n. b.association < n) (sym same) lost.association;
      rows = λ i slot. ap (λ (rows : TermId → Option Row). rows (Line (record { 0 = b.lines i }))) own.settled.row
          ∙ own.changes.row (Line (record { 0 = b.lines i })) (not_own i slot) ∙ lost.rows i slot;
      list = λ i slot. ap (λ (row : LineRow). row.list) (line i slot) ∙ lost.list i slot;
      playing = λ i slot. ap (λ (row : LineRow). row.playing) (line i slot) ∙ lost.playing i slot;
      request = λ i slot. ap (λ (row : LineRow). row.request) (line i slot) ∙ lost.request i slot;
      no_ephemeral = λ x is. lost.no_ephemeral x (is_call_of (g.creator x) b.call
          (sym (created_only (is_call (g.creator x) b.call) (g.board.used_ephemeral x))
          ∙ sym (still_owned g end after call b.call own apart (Eph x))
          ∙ created_only (is_call (after.creator x) b.call) (after.board.used_ephemeral x)
          ∙ ap (λ (o : Option ℕ). is_call o b.call) is ∙ eq-eqb b.call b.call refl));
      no_reply = ap (λ (k : CallLink). k.last) link ∙ lost.no_reply;
      no_cut = λ i j slot also. ap (λ (cuts : TermId → TermId → Bool). cuts (Line (record { 0 = b.lines i })) (Line (record { 0 = b.lines j }))) own.settled.cut
          ∙ own.changes.cut (Line (record { 0 = b.lines i })) (Line (record { 0 = b.lines j })) (not_own i slot) (not_own j also)
          ∙ lost.no_cut i j slot also;
    }
