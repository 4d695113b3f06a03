-- The methods of accounts, containers and objects (OpenStack Object Storage API v1).
use Rattle.std.specs.Prelude.{Bool, ◌||◌, bytes_eq, codes}
use Rattle.http_model.specs.declared.head.Head.{Head}
use Rattle.http_model.specs.Forms.{is_get, is_put, is_bodiless}

-- GET or HEAD
abbrev pub is_look : Head → Bool
is_look head = is_get head || is_bodiless head.method

abbrev pub is_post : Head → Bool
is_post head = bytes_eq head.method (codes "POST")

abbrev pub is_delete : Head → Bool
is_delete head = bytes_eq head.method (codes "DELETE")

abbrev pub is_copy : Head → Bool
is_copy head = bytes_eq head.method (codes "COPY")

-- PUT or POST
abbrev pub is_change : Head → Bool
is_change head = is_put head || is_post head

-- a method that a container takes
abbrev pub has_container_method : Head → Bool
has_container_method head = is_look head || (is_change head || is_delete head)

-- a method that an object takes
abbrev pub has_object_method : Head → Bool
has_object_method head = has_container_method head || is_copy head
