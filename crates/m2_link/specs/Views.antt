-- What a fault tells of the objects.
use Rattle.std.specs.Prelude.{◌≡◌, List, Some}
use Rattle.object_file.specs.Contents.{Contents}
use Rattle.m2_link.specs.Refusals.{twice, missing, key_differs, refusal}
use Rattle.m2_link.specs.declared.fault.LinkFault.{LinkFault}
use Rattle.m2_link.specs.declared.fault.LinkFault.TheVariants as faults

-- a fault other than want of memory is what the objects are refused for
abbrev pub IsRefusalOf : List Contents → LinkFault → Type 0
IsRefusalOf os (faults.Twice name) = refusal os ≡ Some (twice name.items)
IsRefusalOf os (faults.Missing name) = refusal os ≡ Some (missing name.items)
IsRefusalOf os (faults.KeyDiffers name) = refusal os ≡ Some (key_differs name.items)
IsRefusalOf os faults.Memory = Unit {0}
