-- Where two worlds treat a call alike, its line says the same of it.
use Rattle.std.proofs.Common.{◌≡◌, ◌∙◌, ℕ, Bool, true, false, List, refl, ap, ◌==◌}
use Rattle.mg_merge.proofs.Words.{Agent, Phase, Progress, ReportLine, Script, World, awaits_pass, awaits_reply, line_now, phase_word, resting, state_of}
use Rattle.mg_alike.proofs.Words.{CallAlike, PhasesAlike, Renaming}

word_same : (current is_end : Bool) (r : Renaming) (one other : Phase) → PhasesAlike r one other → phase_word current is_end other ≡ phase_word current is_end one
word_same false is_end r one other same = refl
word_same true is_end r (awaits_reply q) (awaits_reply p) same = refl
word_same true is_end r awaits_pass awaits_pass same = refl
word_same true is_end r resting resting same = refl
word_same _ is_end r _ _ same = absurd same

abbrev line_of : Script → Progress → (state association current : ℕ) → Phase → ReportLine
line_of script p state association current phase = record {
  state = (state_of script state).name;
  phase = phase_word (association == current) (state_of script state).is_end phase;
  events = p.events;
  idle = p.idle;
}

pub line_same : (script : Script) (p : Progress) (v : World) (r : Renaming) (a b : Agent) → CallAlike r p.world v p.standing a b
    → line_now script b (record p { world = v }) ≡ line_now script a p
line_same script p v r a b alike =
    ap (λ (n : ℕ). line_of script p n b.association v.gateway.association b.phase) alike.agents.state
    ∙ ap (λ (n : ℕ). line_of script p a.state n v.gateway.association b.phase) alike.agents.association
    ∙ ap (λ (n : ℕ). line_of script p a.state a.association n b.phase) alike.association
    ∙ ap (λ (word : List ℕ). record (line_now script a p) { phase = word })
    (word_same (a.association == p.world.gateway.association) (state_of script a.state).is_end r a.phase b.phase alike.agents.phase)
