-- Writes, seen on values.
use Rattle.std.proofs.Common.{◌≡◌, ℕ, ◌<◌, length, get_or, Some, map, refl, sym, ap, ◌∙◌}
use Rattle.std.specs.Prelude.{slice_get, slice_set, option_map}
use Rattle.std.proofs.lemmas.List.{map-set}
use Rattle.std.proofs.lemmas.Option.{slice_get-map, slice_get-get_or}
use Rattle.kt_values.specs.Values as v
use Rattle.kt_values.specs.Values.{Value, Object}
use Rattle.kt_values.specs.Runs.{Store, gave}
use Rattle.kt_values.specs.Heap.{write_slot, heap_with}
use Rattle.kt_direct_values.specs.declared.store.DirectStore.{DirectStore}
use Rattle.kt_direct_values.specs.declared.values.DirectObject.{DirectObject}
use Rattle.kt_direct_values.specs.declared.values.DirectValue.{DirectValue}
use Rattle.kt_direct_values.specs.Forms.{object_form, place_of, store_form, value_form}

-- where the object and the slot are there
slot_written : (x : Value) (place slot : ℕ) (new old : Value) (s : Store) (o : Object) → place_of x ≡ Some place
    → slice_get s.heap place ≡ Some o → slice_get o.slots slot ≡ Some old
    → write_slot x slot new s ≡ gave tt (record s { heap = heap_with s.heap place o slot new })
slot_written (v.reference shape p) place slot new old s o e f g =
    let q : p ≡ place = cc e in rw (q, f, g) refl
slot_written (v.int n) place slot new old s o e f g = absurd (cc e)
slot_written (v.long n) place slot new old s o e f g = absurd (cc e)
slot_written (v.truth b) place slot new old s o e f g = absurd (cc e)
slot_written (v.character c) place slot new old s o e f g = absurd (cc e)
slot_written (v.text t) place slot new old s o e f g = absurd (cc e)
slot_written v.null place slot new old s o e f g = absurd (cc e)
slot_written v.unit place slot new old s o e f g = absurd (cc e)
slot_written (v.entry c n) place slot new old s o e f g = absurd (cc e)
slot_written (v.cell c) place slot new old s o e f g = absurd (cc e)
slot_written (v.closure n captures) place slot new old s o e f g = absurd (cc e)

-- the heap of a store with another value in a slot
pub written : (x : Value) (place slot : ℕ) (new : DirectValue) (s : DirectStore) (o p : DirectObject)
    → place_of x ≡ Some place → slice_get s.heap.items place ≡ Some o → slot < length o.slots
    → object_form p ≡ record { shape = (object_form o).shape; slots = slice_set (map value_form o.slots) slot (value_form new) }
    → write_slot x slot (value_form new) (store_form s)
    ≡ gave tt (record (store_form s) { heap = map object_form (slice_set s.heap.items place p) })
written x place slot new s o p e f lt is =
    let found : slice_get (map object_form s.heap.items) place ≡ Some (object_form o) =
    slice_get-map object_form s.heap.items place ∙ ap (option_map object_form) f in
    let inside : slice_get (map value_form o.slots) slot ≡ Some (value_form (get_or o.slots slot new)) =
    slice_get-map value_form o.slots slot ∙ ap (option_map value_form) (slice_get-get_or o.slots slot new lt) in
    slot_written x place slot (value_form new) _ (store_form s) (object_form o) e found inside
    ∙ ap (λ h. gave tt (record (store_form s) { heap = h }))
    (ap (slice_set (map object_form s.heap.items) place) (sym is) ∙ sym (map-set object_form s.heap.items place p))
