-- What a store of the values of fields exposes, and what loads, stores and acts do to it. This project's own.
use Rattle.std.specs.Option.{option_map}
use Rattle.std.specs.Prelude.{◌≡◌, ℕ, ◌||◌, Bool, true, false, if◌then◌else◌, Option, Some, List, [], ◌∷◌, ◌++◌, ℤ}
use Rattle.liszt_base.specs.Reductions.{fold}
use Rattle.liszt_base.specs.declared.accesses.Mode.{Mode}
use Rattle.liszt_base.specs.declared.accesses.Mode.TheVariants.{Read, Write, Reduce}
use Rattle.liszt_base.specs.declared.accesses.Spot.{Spot}
use Rattle.liszt_base.specs.declared.elements.Op.{Op}
use Rattle.phase_types.specs.Environments.{is_built_in}
use Rattle.code_eval.specs.Acts.{Act, is_spot, value_after, is_changed}

-- AN ENTRY of a log: a load with the value that it gave, or a store
pub data Entry : Type 0 where
  Load : Spot → ℤ → Entry
  Store : Spot → ℤ → Entry

-- THE VIEW of a store: the spots that may be loaded and those that may be stored, their values, the flags of some spots, and the log of loads and
-- stores, if it keeps one. The values and flags at other spots have no meaning.
pub record StoreView : Type 0 where
  pub loadable : Spot → Bool
  pub storable : Spot → Bool
  pub values : Spot → ℤ
  pub flags : Spot → Option Bool
  pub log : Option (List Entry)

-- no step changes which spots may be used
pub record HasSameSpots (s t : StoreView) : Type 0 where
  pub loadable : t.loadable ≡ s.loadable
  pub storable : t.storable ≡ s.storable

-- where the store keeps a log, a step appends an entry
pub record IsLogged (entry : Entry) (s t : StoreView) : Type 0 where
  pub logged : (entries : List Entry) → s.log ≡ Some entries → t.log ≡ Some (entries ++ entry ∷ [])

pub record IsLoad (spot : Spot) (value : ℤ) (s t : StoreView) : Type 0 where
  pub spots : HasSameSpots s t
  pub is : value ≡ s.values spot
  pub values : (other : Spot) → t.values other ≡ s.values other
  pub flags : (other : Spot) → t.flags other ≡ s.flags other
  pub logged : IsLogged (Load spot value) s t

abbrev pub stored : {A : Type 0} → Spot → A → Spot → A → A
stored spot new other old = if is_spot spot other then new else old

pub record IsStore (spot : Spot) (value : ℤ) (s t : StoreView) : Type 0 where
  pub spots : HasSameSpots s t
  pub values : (other : Spot) → t.values other ≡ stored spot value other (s.values other)
  pub flags : (other : Spot) → t.flags other ≡ option_map (λ flag. is_spot spot other || flag) (s.flags other)
  pub logged : IsLogged (Store spot value) s t

-- THE LOG THAT ACTS CALL FOR: a read is a load of its value, a write a store, a reduction a load of some number and directly after it
-- a store of the fold; a read of a built-in field is no entry.
pub data CallsFor : List Act → List Entry → Type 0 where
  ForNothing : CallsFor [] []
  ForBuiltIn : {acts : List Act} {entries : List Entry} (spot : Spot) (value : ℤ) → is_built_in spot.field ≡ true
      → CallsFor acts entries → CallsFor (record { spot = spot; mode = Read; value = value } ∷ acts) entries
  ForRead : {acts : List Act} {entries : List Entry} (spot : Spot) (value : ℤ) → is_built_in spot.field ≡ false
      → CallsFor acts entries → CallsFor (record { spot = spot; mode = Read; value = value } ∷ acts) (Load spot value ∷ entries)
  ForWrite : {acts : List Act} {entries : List Entry} (spot : Spot) (value : ℤ)
      → CallsFor acts entries → CallsFor (record { spot = spot; mode = Write; value = value } ∷ acts) (Store spot value ∷ entries)
  ForReduce : {acts : List Act} {entries : List Entry} {op : Op} (spot : Spot) (value old : ℤ)
      → CallsFor acts entries
      → CallsFor (record { spot = spot; mode = Reduce op; value = value } ∷ acts)
      (Load spot old ∷ Store spot (fold op old value) ∷ entries)

pub record HasLogged (acts : List Act) (s t : StoreView) (entries : List Entry) : Type 0 where
  pub new_entries : List Entry
  pub logged : t.log ≡ Some (entries ++ new_entries)
  pub calls : CallsFor acts new_entries

-- A STORE AFTER ACTS: the values are changed by the acts in order, the flags of changed spots are set, and the log grew by what the
-- acts call for.
pub record HasActed (acts : List Act) (s t : StoreView) : Type 0 where
  pub spots : HasSameSpots s t
  pub values : (spot : Spot) → t.values spot ≡ value_after acts spot (s.values spot)
  pub flags : (spot : Spot) → t.flags spot ≡ option_map (λ flag. is_changed acts spot || flag) (s.flags spot)
  pub logged : (entries : List Entry) → s.log ≡ Some entries → HasLogged acts s t entries

-- A STORE ADMITS ACTS where each field has one mode in them, what is read may be loaded and has the value that is read, what is
-- written may be stored, and what is reduced may be both loaded and stored. Of built-in fields nothing is asked of the store.
abbrev pub AdmitsBy : StoreView → Act → Mode → Type 0
AdmitsBy s act Read = (s.loadable act.spot ≡ true) × (s.values act.spot ≡ act.value)
AdmitsBy s act Write = s.storable act.spot ≡ true
AdmitsBy s act (Reduce op) = (s.loadable act.spot ≡ true) × (s.storable act.spot ≡ true)

abbrev pub AdmitsAct : (ℕ → Option Mode) → StoreView → Act → Type 0
AdmitsAct modes s act =
    (modes act.spot.field ≡ Some act.mode)
    × (is_built_in act.spot.field ≡ false → AdmitsBy s act act.mode)
    × (is_built_in act.spot.field ≡ true → act.mode ≡ Read)

abbrev pub AdmitsAll : (ℕ → Option Mode) → StoreView → List Act → Type 0
AdmitsAll modes s [] = Unit {0}
AdmitsAll modes s (act ∷ rest) = AdmitsAct modes s act × AdmitsAll modes s rest

pub record Admits (s : StoreView) (acts : List Act) : Type 0 where
  pub modes : ℕ → Option Mode
  pub all : AdmitsAll modes s acts
