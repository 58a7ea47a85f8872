-- What the code keeps while it loads a program.
use Rattle.std.specs.Prelude.{◌≡◌, ◌<◌, ◌≤◌, ◌+◌, ◌^◌, ◌++◌, ℕ, List, [], ◌∷◌, length, map, slice_get, Option, Some}
use Rattle.std.specs.Prelude.{None}
use Rattle.std.specs.List.{slice_index_or}
use Rattle.stack_machine.specs.declared.placed.Placed.{Placed}
use Rattle.stack_machine.specs.declared.ops.Scene.{Scene as SceneCode}
use Rattle.stack_machine.specs.declared.ops.Site.{Site as SiteCode}
use Rattle.stack_machine.specs.declared.loading.Listing.{Listing}
use Rattle.stack_machine.specs.declared.layout.Layout.{Layout}
use Rattle.stack_machine.specs.declared.op.Op.{Op}
use Rattle.stack_machine.specs.declared.code.Routine.{Routine}
use Rattle.stack_machine.specs.declared.code.Origin.{Origin}
use Rattle.code_form.specs.Modules.{Procedure}
use Rattle.object_file.specs.Contents.{Contents}
use Rattle.stack_machine.specs.Loading.{Spot, Site, Block, IsBlock, AreBlocksOf, AreBlocks, flat, block_ops}
use Rattle.stack_machine.specs.Loading.{block_origins, routines_from, variables_of, bodies_of, count_of}
use Rattle.stack_machine.specs.Loading.{imports_in_out, first_cell, data_at, frames_of, data_in, data_of}

abbrev pub nothing : Contents
nothing =
    record { version = 0; name = []; key = []; cells = 0; own_cells = 0; exports = []; imports = []; procedures = [] }

abbrev pub contents_or : Option Contents → Contents
contents_or None = nothing
contents_or (Some o) = o

-- the object with a number
abbrev pub at_object : List Contents → (m : ℕ) → Contents
at_object os m = contents_or (slice_get os m)

abbrev pub spot_of : Placed → Spot
spot_of p = record { at = p.at; instr = p.instr }

-- each place is above those before it
abbrev pub Ascend : List Spot → Type 0
Ascend ss = (i j : ℕ) (x y : Spot) → i < j → slice_get ss i ≡ Some x → slice_get ss j ≡ Some y → x.at < y.at

abbrev pub site_in : SiteCode → Site
site_in s =
    record { «module» = s.«module»; named = s.named.now; text = s.text; start = s.start; all = map spot_of s.all.now }

pub record IsScene (s : SceneCode) : Type 0 where
  pub variables : s.variables.now ≡ variables_of s.objects.now
  pub bodies : s.bodies.now ≡ bodies_of s.objects.now
  pub count : s.count ≡ count_of s.objects.now
  pub variables_small : (x : ℕ) → slice_index_or s.variables.now x 0 < 2 ^ 60
  pub bodies_small : (x : ℕ) → slice_index_or s.bodies.now x 0 < 2 ^ 60
  pub count_small : s.count < 2 ^ 60

pub record IsOn (s : SiteCode) : Type 0 where
  pub ascend : Ascend (map spot_of s.all.now)
  pub text : s.text < 2 ^ 60
  pub start : s.start < 2 ^ 62

pub record HasLayout (l : Layout) (os : List Contents) : Type 0 where
  pub has_in_out : l.has_in_out ≡ imports_in_out os
  pub variables : l.variables ≡ first_cell os
  pub texts : l.texts ≡ data_at os
  pub frames : l.frames ≡ frames_of os

-- these blocks more
pub record Grows (os : List Contents) (bs : List Block) (old new : Listing) : Type 0 where
  pub ops : new.ops.items ≡ old.ops.items ++ flat (block_ops os) (length old.ops.items) 0 bs
  pub origins : new.origins.items ≡ old.origins.items ++ flat block_origins 0 0 bs
  pub routines : new.routines.items ≡ old.routines.items ++ routines_from os (length old.ops.items) bs

-- a procedure more
pub record GrowsBlock (os : List Contents) (m : ℕ) (o : Contents) (k text : ℕ) (p : Procedure)
    (old new : Listing) : Type 0 where
  pub block : Block
  pub is : IsBlock m o k text p block
  pub listed : new.ops.items ≡ old.ops.items ++ block_ops os (length old.ops.items) 0 block
  pub origins : new.origins.items ≡ old.origins.items ++ block_origins 0 0 block
  pub routines : new.routines.items ≡ old.routines.items ++ routines_from os (length old.ops.items) (block ∷ [])

-- procedures of an object more
pub record GrowsObject (os : List Contents) (m : ℕ) (o : Contents) (text : ℕ) (ps : List Procedure)
    (old new : Listing) : Type 0 where
  pub blocks : List Block
  pub are : AreBlocksOf m o 0 text ps blocks
  pub grows : Grows os blocks old new

-- the procedures of the first objects
pub record GrowsAll (os : List Contents) (text : ℕ) (some : List Contents) (old new : Listing) : Type 0 where
  pub blocks : List Block
  pub are : AreBlocks 0 text some blocks
  pub grows : Grows os blocks old new
