-- The service layers 1 and the places of the table, one for each pair of layer 1 and layer 2, or PID where layer 1 is SDS-TL (EN 300 392-5,
-- clauses 6.17.40, 6.17.41 and 6.17.28). Layer 2 comes in groups of ten, of which the first three go by layer 1; Packet Data has neither, and one
-- place.
use Rattle.std.specs.Prelude.{List, [], ◌∷◌, ◌++◌, Option, Some, None, ℕ, zero, suc, eqb}
use Rattle.bits.specs.Bits.{pick}
use Rattle.terminals.specs.declared.layers.Layer.{Layer}
use Rattle.terminals.specs.declared.layers.Place.{Place}

-- CC: voice and data, 0 and 1
abbrev pub layer_cc : Layer
layer_cc = record { start = 0; count = 2; first = Some 0 }

-- MM: registration to energy saving, 10 to 14
abbrev pub layer_mm : Layer
layer_mm = record { start = 2; count = 5; first = Some 10 }

-- SDS: status, types 1 to 4, 20 to 24
abbrev pub layer_sds : Layer
layer_sds = record { start = 7; count = 5; first = Some 20 }

-- SDS-TL: the PIDs 0 to 255
abbrev pub layer_sds_tl : Layer
layer_sds_tl = record { start = 12; count = 256; first = Some 0 }

-- Packet Data: one place, and no third field
abbrev pub layer_packet_data : Layer
layer_packet_data = record { start = 268; count = 1; first = None }

-- no other layer has a place
abbrev pub no_layer : Layer
no_layer = record { start = 0; count = 0; first = None }

-- the codes 0 to 4
unfoldable pub layer_at : ℕ → Layer
layer_at l = pick (eqb l 0) layer_cc
    (pick (eqb l 1) layer_mm (pick (eqb l 2) layer_sds (pick (eqb l 3) layer_sds_tl (pick (eqb l 4) layer_packet_data no_layer))))

-- so many places of a layer, by the values of the third field from one on
unfoldable pub values : ℕ → ℕ → ℕ → List Place
values l t zero = []
values l t (suc n) = record { layer = l; third = Some t } ∷ values l (suc t) n

-- the place of a layer that takes no third field
abbrev pub alone : ℕ → List Place
alone l = record { layer = l; third = None } ∷ []

-- the places of a layer, by whether values of a third field name them
abbrev pub places_from : ℕ → Option ℕ → ℕ → List Place
places_from l (Some t) n = values l t n
places_from l None n = alone l

-- the places of a layer
abbrev pub places_of : ℕ → Layer → List Place
places_of l row = places_from l row.first row.count

-- all places, in the order of the table
unfoldable pub places : List Place
places = places_of 0 layer_cc ++ (places_of 1 layer_mm ++ (places_of 2 layer_sds ++ (places_of 3 layer_sds_tl ++ places_of 4 layer_packet_data)))

-- past the end of the table
abbrev pub nowhere : Place
nowhere = record { layer = 0; third = None }
