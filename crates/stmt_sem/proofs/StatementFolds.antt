-- What loops over statements and arms make is what the definitions by recursion give.
use Rattle.std.proofs.Common.{◌≡◌, ◌∙◌, [], ◌∷◌, ℕ, List, Option, map, refl, sym}
use Rattle.m2_base.specs.Gives.{Gives, and_then, gives}
use Rattle.m2_base.specs.Trees.{CaseArm, IfArm, Statement, Statements, case_arms, if_arms, more_statements, no_statements, statements}
use Rattle.m2_base.specs.declared.rows.Place.{Place}
use Rattle.const_eval.proofs.Analysing.{and_then_assoc}
use Rattle.const_eval.proofs.Folding.{and_then_gives, and_then_same, folded}
use Rattle.block_code.specs.Flows.{Flow, nothing, ◌⨾◌}
use Rattle.stmt_sem.specs.StatementParts.{otherwise, statements_onto}
use Rattle.block_code.specs.Statements.{Arm, Stand, arm_flow, arms_flow, case_flow, cases_flow, else_of, flow_of, flow_or_nothing, statement_flow}

-- a statement behind those before it
abbrev pub behind_flow : (Flow → Flow) → Flow → Flow → Flow
behind_flow before a rest = before (a ⨾ rest)

-- an arm behind those before it
abbrev pub behind_arm : (Option Flow → Option Flow) → (Option Flow → Option Flow) → Option Flow → Option Flow
behind_arm before a other = before (a other)

abbrev pub behind_case : Arm → Arm → Arm
behind_case before a = record { flow = λ t others. before.flow t (a.flow t others); covered = a.covered }

module _ (s : Stand) where
  pub onto_folded : {X : Type 0} (view : X → Statement) (before : Flow → Flow) (ss : List X)
      → folded (λ o i. and_then (statement_flow s (view i)) (λ m. gives (behind_flow o m))) before ss ≡ statements_onto s before (statements (map view ss))
  onto_folded {X} view before [] = refl
  onto_folded {X} view before (x ∷ ss) =
      let step : (Flow → Flow) → X → Gives (Flow → Flow) = λ o i. and_then (statement_flow s (view i)) (λ m. gives (behind_flow o m)) in
      let one = statement_flow s (view x) in
      and_then_assoc one (λ m. gives (behind_flow before m)) (λ b. folded step b ss)
      ∙ and_then_same one (λ m. and_then (gives (behind_flow before m)) (λ b. folded step b ss)) (λ m. statements_onto s (behind_flow before m) (statements (map view ss)))
      (onto_folded view (behind_flow before one.value) ss)

  pub onto_whole : (before : Flow → Flow) (ss : Statements) → and_then (statements_onto s before ss) (λ b. gives (b nothing)) ≡ and_then (flow_of s ss) (λ f. gives (before f))
  onto_whole before no_statements = refl
  onto_whole before (more_statements st ss) =
      let one = statement_flow s st in
      let rest = flow_of s ss in
      and_then_assoc one (λ a. statements_onto s (behind_flow before a) ss) (λ b. gives (b nothing))
      ∙ and_then_same one (λ a. and_then (statements_onto s (behind_flow before a) ss) (λ b. gives (b nothing))) (λ a. and_then rest (λ f. gives (before (a ⨾ f)))) (onto_whole (behind_flow before one.value) ss)
      ∙ sym (
      and_then_assoc one (λ a. and_then rest (λ b. gives (a ⨾ b))) (λ f. gives (before f))
      ∙ and_then_same one (λ a. and_then (and_then rest (λ b. gives (a ⨾ b))) (λ f. gives (before f))) (λ a. and_then rest (λ f. gives (before (a ⨾ f)))) (and_then_assoc rest (λ b. gives (one.value ⨾ b)) (λ f. gives (before f)))
      )

  -- statements put together
  pub statements_given : (ss : Statements) → and_then (statements_onto s (λ rest. rest) ss) (λ b. gives (b nothing)) ≡ flow_of s ss
  statements_given ss = onto_whole (λ rest. rest) ss ∙ and_then_gives (flow_of s ss)

  arms_from : {X : Type 0} (view : X → IfArm) (before : Option Flow → Option Flow) (as' : List X)
      → folded (λ o i. and_then (arm_flow s (view i)) (λ m. gives (behind_arm o m))) before as' ≡ and_then (arms_flow s (if_arms (map view as'))) (λ rest. gives (behind_arm before rest))
  arms_from {X} view before [] = refl
  arms_from {X} view before (x ∷ as') =
      let step : (Option Flow → Option Flow) → X → Gives (Option Flow → Option Flow) = λ o i. and_then (arm_flow s (view i)) (λ m. gives (behind_arm o m)) in
      let one = arm_flow s (view x) in
      let others = arms_flow s (if_arms (map view as')) in
      and_then_assoc one (λ m. gives (behind_arm before m)) (λ b. folded step b as')
      ∙ and_then_same one (λ m. and_then (gives (behind_arm before m)) (λ b. folded step b as')) (λ m. and_then others (λ rest. gives (behind_arm (behind_arm before m) rest))) (arms_from view (behind_arm before one.value) as')
      ∙ sym (
      and_then_assoc one (λ first. and_then others (λ rest. gives (behind_arm first rest))) (λ rest. gives (behind_arm before rest))
      ∙ and_then_same one (λ first. and_then (and_then others (λ rest. gives (behind_arm first rest))) (λ rest. gives (behind_arm before rest))) (λ m. and_then others (λ rest. gives (behind_arm (behind_arm before m) rest)))
      (and_then_assoc others (λ rest. gives (behind_arm one.value rest)) (λ rest. gives (behind_arm before rest)))
      )

  -- the arms of an IF
  pub arms_folded : {X : Type 0} (view : X → IfArm) (as' : List X) → folded (λ o i. and_then (arm_flow s (view i)) (λ m. gives (behind_arm o m))) (λ other. other) as' ≡ arms_flow s (if_arms (map view as'))
  arms_folded view as' = arms_from view (λ other. other) as' ∙ and_then_gives (arms_flow s (if_arms (map view as')))

  -- what stands after ELSE
  pub otherwise_given : (other : Statements) (f : Option Flow → Option Flow) → and_then (otherwise s other) (λ o. gives (flow_or_nothing (f o))) ≡ and_then (flow_of s other) (λ o. gives (flow_or_nothing (f (else_of other o))))
  otherwise_given other f = and_then_assoc (flow_of s other) (λ o. gives (else_of other o)) (λ o. gives (flow_or_nothing (f o)))

  cases_from : {X : Type 0} (view : X → CaseArm) (typ : Place) (before : Arm) (as' : List X)
      → and_then (folded (λ o i. and_then (case_flow s typ o.covered (view i)) (λ m. gives (behind_case o m))) before as') (λ b. gives b.flow)
      ≡ and_then (cases_flow s typ before.covered (case_arms (map view as'))) (λ rest. gives (λ t other. before.flow t (rest t other)))
  cases_from {X} view typ before [] = refl
  cases_from {X} view typ before (x ∷ as') =
      let step : Arm → X → Gives Arm = λ o i. and_then (case_flow s typ o.covered (view i)) (λ m. gives (behind_case o m)) in
      let one = case_flow s typ before.covered (view x) in
      let others = λ (m : Arm). cases_flow s typ m.covered (case_arms (map view as')) in
      let last = λ (b : Arm). gives b.flow in
      let whole = λ (f : ℕ → Flow → Flow). gives (λ (t : ℕ) (other : Flow). before.flow t (f t other)) in
      and_then_assoc (step before x) (λ b. folded step b as') last
      ∙ and_then_assoc one (λ m. gives (behind_case before m)) (λ b. and_then (folded step b as') last)
      ∙ and_then_same one (λ m. and_then (gives (behind_case before m)) (λ b. and_then (folded step b as') last)) (λ m. and_then (others m) (λ rest. gives (λ t other. before.flow t (m.flow t (rest t other))))) (cases_from view typ (behind_case before one.value) as')
      ∙ sym (
      and_then_assoc one (λ m. and_then (others m) (λ rest. gives (λ t other. m.flow t (rest t other)))) whole
      ∙ and_then_same one (λ m. and_then (and_then (others m) (λ rest. gives (λ t other. m.flow t (rest t other)))) whole) (λ m. and_then (others m) (λ rest. gives (λ t other. before.flow t (m.flow t (rest t other)))))
      (and_then_assoc (others one.value) (λ rest. gives (λ t other. one.value.flow t (rest t other))) whole)
      )

  -- the arms of a CASE
  pub cases_folded : {X : Type 0} (view : X → CaseArm) (typ : Place) (as' : List X)
      → and_then (folded (λ o i. and_then (case_flow s typ o.covered (view i)) (λ m. gives (behind_case o m))) (record { flow = λ t other. other; covered = [] }) as') (λ b. gives b.flow) ≡ cases_flow s typ [] (case_arms (map view as'))
  cases_folded view typ as' = cases_from view typ (record { flow = λ t other. other; covered = [] }) as' ∙ and_then_gives (cases_flow s typ [] (case_arms (map view as')))
