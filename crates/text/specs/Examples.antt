-- Examples that antt computes.
use Rattle.std.specs.Prelude.{◌≡◌, refl, [], ◌∷◌, Some, None}
use Rattle.text.specs.Laying.{end_at, laid_at}
use Rattle.text.specs.Decimal.{digits, decimal}
use Rattle.text.specs.Field.{is_digit, run, number_from, field_of, field_at}

decimal-0 : decimal 0 ≡ 48 ∷ []
unfolding decimal digits
decimal-0 = refl

decimal-9 : decimal 9 ≡ 57 ∷ []
unfolding decimal digits
decimal-9 = refl

decimal-10 : decimal 10 ≡ 49 ∷ 48 ∷ []
unfolding decimal digits
decimal-10 = refl

decimal-most : decimal 16777215 ≡ 49 ∷ 54 ∷ 55 ∷ 55 ∷ 55 ∷ 50 ∷ 49 ∷ 53 ∷ []
unfolding decimal digits
decimal-most = refl

-- two bytes in the middle of four; three have no room from the third place on
laid : laid_at (1 ∷ 2 ∷ 3 ∷ 4 ∷ []) 1 (8 ∷ 9 ∷ []) ≡ 1 ∷ 8 ∷ 9 ∷ 4 ∷ []
unfolding laid_at
laid = refl

laid_end : end_at 4 1 (8 ∷ 9 ∷ []) ≡ 3
unfolding end_at
laid_end = refl

no_room : laid_at (1 ∷ 2 ∷ 3 ∷ 4 ∷ []) 2 (7 ∷ 8 ∷ 9 ∷ []) ≡ 1 ∷ 2 ∷ 3 ∷ 4 ∷ []
unfolding laid_at
no_room = refl

no_room-end : end_at 4 2 (7 ∷ 8 ∷ 9 ∷ []) ≡ 2
unfolding end_at
no_room-end = refl

-- `002,` is 2, with its comma at place 3
leading_zeros : field_at (48 ∷ 48 ∷ 50 ∷ 44 ∷ []) 0 3 ≡ Some (2, 3)
unfolding field_at field_of run is_digit number_from
leading_zeros = refl

-- `,16` from its second byte on, to the end
to_the_end : field_at (44 ∷ 49 ∷ 54 ∷ []) 1 8 ≡ Some (16, 3)
unfolding field_at field_of run is_digit number_from
to_the_end = refl

-- no digit stands first: `,1`, and what is over
none_first : field_at (44 ∷ 49 ∷ []) 0 3 ≡ None
unfolding field_at field_of run is_digit
none_first = refl

none_left : field_at (49 ∷ []) 1 3 ≡ None
unfolding field_at field_of run is_digit
none_left = refl

-- four digits where three are the most
too_wide : field_at (48 ∷ 48 ∷ 48 ∷ 49 ∷ []) 0 3 ≡ None
unfolding field_at field_of run is_digit
too_wide = refl

-- 47 and 58 stand beside the digits
beside : run (47 ∷ []) ≡ run (58 ∷ [])
unfolding run is_digit
beside = refl
