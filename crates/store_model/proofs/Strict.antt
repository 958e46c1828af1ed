-- Values are computed to the end before a computation goes on with them.
use Rattle.std.proofs.Common.{◌≡◌, ℕ, zero, suc, Bool, true, false, List, [], ◌∷◌, Option, Some, None, refl, ◌∙◌}
use Rattle.type_table.specs.declared.info.Shape.{Shape}
use Rattle.type_table.specs.declared.info.Shape.TheVariants.{Fixed, IntArray, RefArray, Weak}
use Rattle.type_table.specs.declared.info.TypeInfo.{TypeInfo}
use Rattle.text_model.specs.declared.line.Phase.{Phase}
use Rattle.text_model.specs.declared.line.Phase.TheVariants.{Scanning, Marking, Sweeping, Finalizing}
use Rattle.object_model.specs.Object.{Object}
use Rattle.store_model.specs.Store.{Store, Struct, Linked, Unlinked, Pending}

-- goes on with a value once it is computed
abbrev pub Forces : Type 0 → Type 0 → Type 0
Forces X A = A → (A → X) → X

-- that is to go on with the value
abbrev pub Law : {X A : Type 0} → Forces X A → Type 0
Law {X} {A} force = (x : A) (k : A → X) → force x k ≡ k x

module _ {X : Type 0} where
  -- without computing
  abbrev pub skip : {A : Type 0} → Forces X A
  skip x k = k x

  pub skip-is : {A : Type 0} → Law (skip {A = A})
  skip-is x k = refl

  abbrev pub nat : Forces X ℕ
  nat zero k = k zero
  nat (suc n) k = k (suc n)

  pub nat-is : Law nat
  nat-is zero k = refl
  nat-is (suc n) k = refl

  abbrev pub bool : Forces X Bool
  bool true k = k true
  bool false k = k false

  pub bool-is : Law bool
  bool-is true k = refl
  bool-is false k = refl

  abbrev pub list : {A : Type 0} → Forces X A → Forces X (List A)
  list force [] k = k []
  list force (x ∷ xs) k = force x (λ y. list force xs (λ ys. k (y ∷ ys)))

  pub list-is : {A : Type 0} (force : Forces X A) → Law force → Law (list force)
  list-is force law [] k = refl
  list-is force law (x ∷ xs) k = law x (λ y. list force xs (λ ys. k (y ∷ ys))) ∙ list-is force law xs (λ ys. k (x ∷ ys))

  abbrev pub option : {A : Type 0} → Forces X A → Forces X (Option A)
  option force None k = k None
  option force (Some x) k = force x (λ y. k (Some y))

  pub option-is : {A : Type 0} (force : Forces X A) → Law force → Law (option force)
  option-is force law None k = refl
  option-is force law (Some x) k = law x (λ y. k (Some y))

  abbrev pub pair : {A B : Type 0} → Forces X A → Forces X B → Forces X (A × B)
  pair force other x k = force x.0 (λ a. other x.1 (λ b. k (a, b)))

  pub pair-is : {A B : Type 0} (force : Forces X A) → Law force → (other : Forces X B) → Law other → Law (pair force other)
  pair-is force law other law2 x k = law x.0 (λ a. other x.1 (λ b. k (a, b))) ∙ law2 x.1 (λ b. k (x.0, b))

  abbrev pub shape : Forces X Shape
  shape (Fixed ints refs) k = nat ints (λ a. nat refs (λ b. k (Fixed a b)))
  shape IntArray k = k IntArray
  shape RefArray k = k RefArray
  shape Weak k = k Weak

  pub shape-is : Law shape
  shape-is (Fixed ints refs) k = nat-is ints (λ a. nat refs (λ b. k (Fixed a b))) ∙ nat-is refs (λ b. k (Fixed ints b))
  shape-is IntArray k = refl
  shape-is RefArray k = refl
  shape-is Weak k = refl

  abbrev pub phase : Forces X Phase
  phase Scanning k = k Scanning
  phase Marking k = k Marking
  phase Sweeping k = k Sweeping
  phase Finalizing k = k Finalizing

  pub phase-is : Law phase
  phase-is Scanning k = refl
  phase-is Marking k = refl
  phase-is Sweeping k = refl
  phase-is Finalizing k = refl

  abbrev pub struct : Forces X Struct
  struct (Linked p light birth own) k = bool p (λ a. bool light (λ b. nat birth (λ c. nat own (λ d. k (Linked a b c d)))))
  struct (Unlinked own) k = nat own (λ d. k (Unlinked d))
  struct Pending k = k Pending

  pub struct-is : Law struct
  struct-is (Linked p light birth own) k = bool-is p _ ∙ bool-is light _ ∙ nat-is birth _ ∙ nat-is own (λ d. k (Linked p light birth d))
  struct-is (Unlinked own) k = nat-is own (λ d. k (Unlinked d))
  struct-is Pending k = refl

  abbrev pub info : Forces X TypeInfo
  info x k =
      shape x.shape (λ a0.
      bool x.destructor (λ a1.
      k (record { shape = a0; destructor = a1 })))

  pub info-is : Law info
  info-is x k =
      shape-is x.shape (λ a0. bool x.destructor (λ a1. k (record { shape = a0; destructor = a1 })))
      ∙ bool-is x.destructor (λ a1. k (record { shape = x.shape; destructor = a1 }))

  abbrev pub object : Forces X Object
  object x k =
      nat x.birth (λ a0.
      nat x.type_id (λ a1.
      info x.info (λ a2.
      (list nat) x.ints (λ a3.
      (list (option nat)) x.refs (λ a4.
      (option nat) x.target (λ a5.
      k (record { birth = a0; type_id = a1; info = a2; ints = a3; refs = a4; target = a5 })))))))

  pub object-is : Law object
  object-is x k =
      nat-is x.birth (λ a0. nat x.type_id (λ a1. info x.info (λ a2. (list nat) x.ints (λ a3. (list (option nat)) x.refs (λ a4. (option nat) x.target (λ a5. k (record { birth = a0; type_id = a1; info = a2; ints = a3; refs = a4; target = a5 })))))))
      ∙ nat-is x.type_id (λ a1. info x.info (λ a2. (list nat) x.ints (λ a3. (list (option nat)) x.refs (λ a4. (option nat) x.target (λ a5. k (record { birth = x.birth; type_id = a1; info = a2; ints = a3; refs = a4; target = a5 }))))))
      ∙ info-is x.info (λ a2. (list nat) x.ints (λ a3. (list (option nat)) x.refs (λ a4. (option nat) x.target (λ a5. k (record { birth = x.birth; type_id = x.type_id; info = a2; ints = a3; refs = a4; target = a5 })))))
      ∙ (list-is nat nat-is) x.ints (λ a3. (list (option nat)) x.refs (λ a4. (option nat) x.target (λ a5. k (record { birth = x.birth; type_id = x.type_id; info = x.info; ints = a3; refs = a4; target = a5 }))))
      ∙ (list-is (option nat) (option-is nat nat-is)) x.refs (λ a4. (option nat) x.target (λ a5. k (record { birth = x.birth; type_id = x.type_id; info = x.info; ints = x.ints; refs = a4; target = a5 })))
      ∙ (option-is nat nat-is) x.target (λ a5. k (record { birth = x.birth; type_id = x.type_id; info = x.info; ints = x.ints; refs = x.refs; target = a5 }))

  abbrev pub store : Forces X Store
  store x k =
      nat x.next (λ a0.
      (list object) x.kept (λ a1.
      (list (pair nat nat)) x.husks (λ a2.
      (list (option nat)) x.slots (λ a3.
      (list nat) x.settled (λ a4.
      (list (pair nat nat)) x.homes (λ a5.
      (list (pair nat nat)) x.pinned (λ a6.
      (list (pair nat nat)) x.registered (λ a7.
      (list (pair nat nat)) x.chosen (λ a8.
      (list (pair nat (list nat))) x.queues (λ a9.
      (list (pair nat struct)) x.structs (λ a10.
      (list nat) x.dead (λ a11.
      phase x.phase (λ a12.
      nat x.threshold (λ a13.
      nat x.fresh (λ a14.
      bool x.gapped (λ a15.
      (list nat) x.visited (λ a16.
      (list nat) x.unreached (λ a17.
      (list nat) x.doomed (λ a18.
      nat x.left (λ a19.
      k (record { next = a0; kept = a1; husks = a2; slots = a3; settled = a4; homes = a5; pinned = a6; registered = a7; chosen = a8; queues = a9; structs = a10; dead = a11; phase = a12; threshold = a13; fresh = a14; gapped = a15; visited = a16; unreached = a17; doomed = a18; left = a19 })))))))))))))))))))))

  pub store-is : Law store
  store-is x k =
      nat-is x.next (λ a0. (list object) x.kept (λ a1. (list (pair nat nat)) x.husks (λ a2. (list (option nat)) x.slots (λ a3. (list nat) x.settled (λ a4. (list (pair nat nat)) x.homes (λ a5. (list (pair nat nat)) x.pinned (λ a6. (list (pair nat nat)) x.registered (λ a7. (list (pair nat nat)) x.chosen (λ a8. (list (pair nat (list nat))) x.queues (λ a9. (list (pair nat struct)) x.structs (λ a10. (list nat) x.dead (λ a11. phase x.phase (λ a12. nat x.threshold (λ a13. nat x.fresh (λ a14. bool x.gapped (λ a15. (list nat) x.visited (λ a16. (list nat) x.unreached (λ a17. (list nat) x.doomed (λ a18. nat x.left (λ a19. k (record { next = a0; kept = a1; husks = a2; slots = a3; settled = a4; homes = a5; pinned = a6; registered = a7; chosen = a8; queues = a9; structs = a10; dead = a11; phase = a12; threshold = a13; fresh = a14; gapped = a15; visited = a16; unreached = a17; doomed = a18; left = a19 })))))))))))))))))))))
      ∙ (list-is object object-is) x.kept (λ a1. (list (pair nat nat)) x.husks (λ a2. (list (option nat)) x.slots (λ a3. (list nat) x.settled (λ a4. (list (pair nat nat)) x.homes (λ a5. (list (pair nat nat)) x.pinned (λ a6. (list (pair nat nat)) x.registered (λ a7. (list (pair nat nat)) x.chosen (λ a8. (list (pair nat (list nat))) x.queues (λ a9. (list (pair nat struct)) x.structs (λ a10. (list nat) x.dead (λ a11. phase x.phase (λ a12. nat x.threshold (λ a13. nat x.fresh (λ a14. bool x.gapped (λ a15. (list nat) x.visited (λ a16. (list nat) x.unreached (λ a17. (list nat) x.doomed (λ a18. nat x.left (λ a19. k (record { next = x.next; kept = a1; husks = a2; slots = a3; settled = a4; homes = a5; pinned = a6; registered = a7; chosen = a8; queues = a9; structs = a10; dead = a11; phase = a12; threshold = a13; fresh = a14; gapped = a15; visited = a16; unreached = a17; doomed = a18; left = a19 }))))))))))))))))))))
      ∙ (list-is (pair nat nat) (pair-is nat nat-is nat nat-is)) x.husks (λ a2. (list (option nat)) x.slots (λ a3. (list nat) x.settled (λ a4. (list (pair nat nat)) x.homes (λ a5. (list (pair nat nat)) x.pinned (λ a6. (list (pair nat nat)) x.registered (λ a7. (list (pair nat nat)) x.chosen (λ a8. (list (pair nat (list nat))) x.queues (λ a9. (list (pair nat struct)) x.structs (λ a10. (list nat) x.dead (λ a11. phase x.phase (λ a12. nat x.threshold (λ a13. nat x.fresh (λ a14. bool x.gapped (λ a15. (list nat) x.visited (λ a16. (list nat) x.unreached (λ a17. (list nat) x.doomed (λ a18. nat x.left (λ a19. k (record { next = x.next; kept = x.kept; husks = a2; slots = a3; settled = a4; homes = a5; pinned = a6; registered = a7; chosen = a8; queues = a9; structs = a10; dead = a11; phase = a12; threshold = a13; fresh = a14; gapped = a15; visited = a16; unreached = a17; doomed = a18; left = a19 })))))))))))))))))))
      ∙ (list-is (option nat) (option-is nat nat-is)) x.slots (λ a3. (list nat) x.settled (λ a4. (list (pair nat nat)) x.homes (λ a5. (list (pair nat nat)) x.pinned (λ a6. (list (pair nat nat)) x.registered (λ a7. (list (pair nat nat)) x.chosen (λ a8. (list (pair nat (list nat))) x.queues (λ a9. (list (pair nat struct)) x.structs (λ a10. (list nat) x.dead (λ a11. phase x.phase (λ a12. nat x.threshold (λ a13. nat x.fresh (λ a14. bool x.gapped (λ a15. (list nat) x.visited (λ a16. (list nat) x.unreached (λ a17. (list nat) x.doomed (λ a18. nat x.left (λ a19. k (record { next = x.next; kept = x.kept; husks = x.husks; slots = a3; settled = a4; homes = a5; pinned = a6; registered = a7; chosen = a8; queues = a9; structs = a10; dead = a11; phase = a12; threshold = a13; fresh = a14; gapped = a15; visited = a16; unreached = a17; doomed = a18; left = a19 }))))))))))))))))))
      ∙ (list-is nat nat-is) x.settled (λ a4. (list (pair nat nat)) x.homes (λ a5. (list (pair nat nat)) x.pinned (λ a6. (list (pair nat nat)) x.registered (λ a7. (list (pair nat nat)) x.chosen (λ a8. (list (pair nat (list nat))) x.queues (λ a9. (list (pair nat struct)) x.structs (λ a10. (list nat) x.dead (λ a11. phase x.phase (λ a12. nat x.threshold (λ a13. nat x.fresh (λ a14. bool x.gapped (λ a15. (list nat) x.visited (λ a16. (list nat) x.unreached (λ a17. (list nat) x.doomed (λ a18. nat x.left (λ a19. k (record { next = x.next; kept = x.kept; husks = x.husks; slots = x.slots; settled = a4; homes = a5; pinned = a6; registered = a7; chosen = a8; queues = a9; structs = a10; dead = a11; phase = a12; threshold = a13; fresh = a14; gapped = a15; visited = a16; unreached = a17; doomed = a18; left = a19 })))))))))))))))))
      ∙ (list-is (pair nat nat) (pair-is nat nat-is nat nat-is)) x.homes (λ a5. (list (pair nat nat)) x.pinned (λ a6. (list (pair nat nat)) x.registered (λ a7. (list (pair nat nat)) x.chosen (λ a8. (list (pair nat (list nat))) x.queues (λ a9. (list (pair nat struct)) x.structs (λ a10. (list nat) x.dead (λ a11. phase x.phase (λ a12. nat x.threshold (λ a13. nat x.fresh (λ a14. bool x.gapped (λ a15. (list nat) x.visited (λ a16. (list nat) x.unreached (λ a17. (list nat) x.doomed (λ a18. nat x.left (λ a19. k (record { next = x.next; kept = x.kept; husks = x.husks; slots = x.slots; settled = x.settled; homes = a5; pinned = a6; registered = a7; chosen = a8; queues = a9; structs = a10; dead = a11; phase = a12; threshold = a13; fresh = a14; gapped = a15; visited = a16; unreached = a17; doomed = a18; left = a19 }))))))))))))))))
      ∙ (list-is (pair nat nat) (pair-is nat nat-is nat nat-is)) x.pinned (λ a6. (list (pair nat nat)) x.registered (λ a7. (list (pair nat nat)) x.chosen (λ a8. (list (pair nat (list nat))) x.queues (λ a9. (list (pair nat struct)) x.structs (λ a10. (list nat) x.dead (λ a11. phase x.phase (λ a12. nat x.threshold (λ a13. nat x.fresh (λ a14. bool x.gapped (λ a15. (list nat) x.visited (λ a16. (list nat) x.unreached (λ a17. (list nat) x.doomed (λ a18. nat x.left (λ a19. k (record { next = x.next; kept = x.kept; husks = x.husks; slots = x.slots; settled = x.settled; homes = x.homes; pinned = a6; registered = a7; chosen = a8; queues = a9; structs = a10; dead = a11; phase = a12; threshold = a13; fresh = a14; gapped = a15; visited = a16; unreached = a17; doomed = a18; left = a19 })))))))))))))))
      ∙ (list-is (pair nat nat) (pair-is nat nat-is nat nat-is)) x.registered (λ a7. (list (pair nat nat)) x.chosen (λ a8. (list (pair nat (list nat))) x.queues (λ a9. (list (pair nat struct)) x.structs (λ a10. (list nat) x.dead (λ a11. phase x.phase (λ a12. nat x.threshold (λ a13. nat x.fresh (λ a14. bool x.gapped (λ a15. (list nat) x.visited (λ a16. (list nat) x.unreached (λ a17. (list nat) x.doomed (λ a18. nat x.left (λ a19. k (record { next = x.next; kept = x.kept; husks = x.husks; slots = x.slots; settled = x.settled; homes = x.homes; pinned = x.pinned; registered = a7; chosen = a8; queues = a9; structs = a10; dead = a11; phase = a12; threshold = a13; fresh = a14; gapped = a15; visited = a16; unreached = a17; doomed = a18; left = a19 }))))))))))))))
      ∙ (list-is (pair nat nat) (pair-is nat nat-is nat nat-is)) x.chosen (λ a8. (list (pair nat (list nat))) x.queues (λ a9. (list (pair nat struct)) x.structs (λ a10. (list nat) x.dead (λ a11. phase x.phase (λ a12. nat x.threshold (λ a13. nat x.fresh (λ a14. bool x.gapped (λ a15. (list nat) x.visited (λ a16. (list nat) x.unreached (λ a17. (list nat) x.doomed (λ a18. nat x.left (λ a19. k (record { next = x.next; kept = x.kept; husks = x.husks; slots = x.slots; settled = x.settled; homes = x.homes; pinned = x.pinned; registered = x.registered; chosen = a8; queues = a9; structs = a10; dead = a11; phase = a12; threshold = a13; fresh = a14; gapped = a15; visited = a16; unreached = a17; doomed = a18; left = a19 })))))))))))))
      ∙ (list-is (pair nat (list nat)) (pair-is nat nat-is (list nat) (list-is nat nat-is))) x.queues (λ a9. (list (pair nat struct)) x.structs (λ a10. (list nat) x.dead (λ a11. phase x.phase (λ a12. nat x.threshold (λ a13. nat x.fresh (λ a14. bool x.gapped (λ a15. (list nat) x.visited (λ a16. (list nat) x.unreached (λ a17. (list nat) x.doomed (λ a18. nat x.left (λ a19. k (record { next = x.next; kept = x.kept; husks = x.husks; slots = x.slots; settled = x.settled; homes = x.homes; pinned = x.pinned; registered = x.registered; chosen = x.chosen; queues = a9; structs = a10; dead = a11; phase = a12; threshold = a13; fresh = a14; gapped = a15; visited = a16; unreached = a17; doomed = a18; left = a19 }))))))))))))
      ∙ (list-is (pair nat struct) (pair-is nat nat-is struct struct-is)) x.structs (λ a10. (list nat) x.dead (λ a11. phase x.phase (λ a12. nat x.threshold (λ a13. nat x.fresh (λ a14. bool x.gapped (λ a15. (list nat) x.visited (λ a16. (list nat) x.unreached (λ a17. (list nat) x.doomed (λ a18. nat x.left (λ a19. k (record { next = x.next; kept = x.kept; husks = x.husks; slots = x.slots; settled = x.settled; homes = x.homes; pinned = x.pinned; registered = x.registered; chosen = x.chosen; queues = x.queues; structs = a10; dead = a11; phase = a12; threshold = a13; fresh = a14; gapped = a15; visited = a16; unreached = a17; doomed = a18; left = a19 })))))))))))
      ∙ (list-is nat nat-is) x.dead (λ a11. phase x.phase (λ a12. nat x.threshold (λ a13. nat x.fresh (λ a14. bool x.gapped (λ a15. (list nat) x.visited (λ a16. (list nat) x.unreached (λ a17. (list nat) x.doomed (λ a18. nat x.left (λ a19. k (record { next = x.next; kept = x.kept; husks = x.husks; slots = x.slots; settled = x.settled; homes = x.homes; pinned = x.pinned; registered = x.registered; chosen = x.chosen; queues = x.queues; structs = x.structs; dead = a11; phase = a12; threshold = a13; fresh = a14; gapped = a15; visited = a16; unreached = a17; doomed = a18; left = a19 }))))))))))
      ∙ phase-is x.phase (λ a12. nat x.threshold (λ a13. nat x.fresh (λ a14. bool x.gapped (λ a15. (list nat) x.visited (λ a16. (list nat) x.unreached (λ a17. (list nat) x.doomed (λ a18. nat x.left (λ a19. k (record { next = x.next; kept = x.kept; husks = x.husks; slots = x.slots; settled = x.settled; homes = x.homes; pinned = x.pinned; registered = x.registered; chosen = x.chosen; queues = x.queues; structs = x.structs; dead = x.dead; phase = a12; threshold = a13; fresh = a14; gapped = a15; visited = a16; unreached = a17; doomed = a18; left = a19 })))))))))
      ∙ nat-is x.threshold (λ a13. nat x.fresh (λ a14. bool x.gapped (λ a15. (list nat) x.visited (λ a16. (list nat) x.unreached (λ a17. (list nat) x.doomed (λ a18. nat x.left (λ a19. k (record { next = x.next; kept = x.kept; husks = x.husks; slots = x.slots; settled = x.settled; homes = x.homes; pinned = x.pinned; registered = x.registered; chosen = x.chosen; queues = x.queues; structs = x.structs; dead = x.dead; phase = x.phase; threshold = a13; fresh = a14; gapped = a15; visited = a16; unreached = a17; doomed = a18; left = a19 }))))))))
      ∙ nat-is x.fresh (λ a14. bool x.gapped (λ a15. (list nat) x.visited (λ a16. (list nat) x.unreached (λ a17. (list nat) x.doomed (λ a18. nat x.left (λ a19. k (record { next = x.next; kept = x.kept; husks = x.husks; slots = x.slots; settled = x.settled; homes = x.homes; pinned = x.pinned; registered = x.registered; chosen = x.chosen; queues = x.queues; structs = x.structs; dead = x.dead; phase = x.phase; threshold = x.threshold; fresh = a14; gapped = a15; visited = a16; unreached = a17; doomed = a18; left = a19 })))))))
      ∙ bool-is x.gapped (λ a15. (list nat) x.visited (λ a16. (list nat) x.unreached (λ a17. (list nat) x.doomed (λ a18. nat x.left (λ a19. k (record { next = x.next; kept = x.kept; husks = x.husks; slots = x.slots; settled = x.settled; homes = x.homes; pinned = x.pinned; registered = x.registered; chosen = x.chosen; queues = x.queues; structs = x.structs; dead = x.dead; phase = x.phase; threshold = x.threshold; fresh = x.fresh; gapped = a15; visited = a16; unreached = a17; doomed = a18; left = a19 }))))))
      ∙ (list-is nat nat-is) x.visited (λ a16. (list nat) x.unreached (λ a17. (list nat) x.doomed (λ a18. nat x.left (λ a19. k (record { next = x.next; kept = x.kept; husks = x.husks; slots = x.slots; settled = x.settled; homes = x.homes; pinned = x.pinned; registered = x.registered; chosen = x.chosen; queues = x.queues; structs = x.structs; dead = x.dead; phase = x.phase; threshold = x.threshold; fresh = x.fresh; gapped = x.gapped; visited = a16; unreached = a17; doomed = a18; left = a19 })))))
      ∙ (list-is nat nat-is) x.unreached (λ a17. (list nat) x.doomed (λ a18. nat x.left (λ a19. k (record { next = x.next; kept = x.kept; husks = x.husks; slots = x.slots; settled = x.settled; homes = x.homes; pinned = x.pinned; registered = x.registered; chosen = x.chosen; queues = x.queues; structs = x.structs; dead = x.dead; phase = x.phase; threshold = x.threshold; fresh = x.fresh; gapped = x.gapped; visited = x.visited; unreached = a17; doomed = a18; left = a19 }))))
      ∙ (list-is nat nat-is) x.doomed (λ a18. nat x.left (λ a19. k (record { next = x.next; kept = x.kept; husks = x.husks; slots = x.slots; settled = x.settled; homes = x.homes; pinned = x.pinned; registered = x.registered; chosen = x.chosen; queues = x.queues; structs = x.structs; dead = x.dead; phase = x.phase; threshold = x.threshold; fresh = x.fresh; gapped = x.gapped; visited = x.visited; unreached = x.unreached; doomed = a18; left = a19 })))
      ∙ nat-is x.left (λ a19. k (record { next = x.next; kept = x.kept; husks = x.husks; slots = x.slots; settled = x.settled; homes = x.homes; pinned = x.pinned; registered = x.registered; chosen = x.chosen; queues = x.queues; structs = x.structs; dead = x.dead; phase = x.phase; threshold = x.threshold; fresh = x.fresh; gapped = x.gapped; visited = x.visited; unreached = x.unreached; doomed = x.doomed; left = a19 }))
